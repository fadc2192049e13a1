use Rattle.test.proofs.Testing as law
use Rattle.test.proofs.test.Goals as goal

pub returns : goal.returns
returns c = law.tests _ _ _ _ _ _ _ c.bad_longs-two.ensures c.plan_test-plan.ensures c.walked-found.ensures c.concluded.ensures
