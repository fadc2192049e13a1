use Rattle.std.proofs.Common.{refl}
use Rattle.replay.proofs.Stepping as law
use Rattle.replay.proofs.settings.add_range.Goals as goal

pub returns-then-range-clause-played : goal.returns-then-range-clause-played
returns-then-range-clause-played c = λ longs c030 c040. law.add_crossed _ _ c.if-range.true

pub returns-in-Ok-clause-played : goal.returns-in-Ok-clause-played
returns-in-Ok-clause-played c =
    λ longs c030 c040. law.add_in c.args.kept.now c.args.range c.if-range.false _ refl c.in-Ok.ensures.ok c.in-Ok.ensures.room

pub returns-in-Ok-clause-none_crossed : goal.returns-in-Ok-clause-none_crossed
returns-in-Ok-clause-none_crossed c = law.added_crossed _ c.args.range c.if-range.false c.in-Ok.ensures.ok

pub returns-in-Err-clause-played : goal.returns-in-Err-clause-played
returns-in-Err-clause-played c =
    λ longs c030 c040. rw c.in-Err.ensures.err (law.add_full c.args.kept.now c.args.range c.if-range.false c.in-Err.ensures.full)
