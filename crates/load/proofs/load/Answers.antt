use Rattle.load.proofs.Loading as law
use Rattle.load.proofs.load.Goals as goal

pub returns : goal.returns
returns c k = law.loads _ _ _ _ _ _ _ c.bad_longs-two.ensures c.plan_load-plan.ensures c.walked-found.ensures c.concluded.ensures k
