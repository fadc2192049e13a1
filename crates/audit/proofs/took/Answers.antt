use Rattle.audit.proofs.Steps as law
use Rattle.audit.proofs.took.Goals as goal

pub returns-then-g-eq30 : goal.returns-then-g-eq30
returns-then-g-eq30 c = law.took_030 _ _ _ _ _ c.if-g-eq30.true c.stale_by_030-stale.ensures c.turned.ensures

pub returns : goal.returns
returns c = law.took_040 _ _ _ _ _ c.if-g-eq30.false c.stale_by_040-stale.ensures c.turned-2.ensures
