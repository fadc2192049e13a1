use Rattle.replay.proofs.Stepping as law
use Rattle.replay.proofs.settings.set.Goals as goal

pub returns-in-Long-clause-played : goal.returns-in-Long-clause-played
returns-in-Long-clause-played c = λ c030 c040. law.by_setting _ c.in-Long.is (law.stored _ _ _ _ c.store.ensures)
