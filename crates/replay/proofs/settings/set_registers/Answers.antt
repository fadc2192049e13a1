use Rattle.replay.proofs.Stepping as law
use Rattle.replay.proofs.settings.set_registers.Goals as goal

pub returns-then-no_family-clause-played : goal.returns-then-no_family-clause-played
returns-then-no_family-clause-played c = λ longs c030 c040. law.set_none _ _ c.no_family.ensures c.if-no_family.true

pub returns-clause-played : goal.returns-clause-played
returns-clause-played c = λ longs c030 c040. law.set_some _ _ c.no_family.ensures c.if-no_family.false
