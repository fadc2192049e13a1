use Rattle.transparent.proofs.Choosing.{compared, none_enabled}
use Rattle.transparent.proofs.is_transparent.Goals as goal

pub returns-then-is_enabled : goal.returns-then-is_enabled
returns-then-is_enabled c = compared _ _ _ _ _ c.first_of-first.ensures c.second_of-second.ensures c.either.ensures

pub returns : goal.returns
returns c =
    none_enabled _ _ _ _ _ c.first_of-first.ensures c.second_of-second.ensures c.is_enabled.ensures c.is_enabled-2.ensures c.if-is_enabled.false
