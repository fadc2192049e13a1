use Rattle.std.proofs.Common.{sym, ◌∙◌, rules}
use Rattle.cache.proofs.Slots.{missed_040, looked_040}
use Rattle.cache.proofs.atc040.look_040.Goals as goal

pub returns-then-c040-i : goal.returns-then-c040-i
returns-then-c040-i c = missed_040 _ (search rules) _ _ c.slot_of-i.ensures.0 _ _ (λ e. c.if-c040-i.true (e ∙ sym c.key_of.ensures))

pub returns : goal.returns
returns c = looked_040 _ (search rules) _ _ c.slot_of-i.ensures.0 _ _ _ (c.if-c040-i.false ∙ c.key_of.ensures) c.permitted.ensures
