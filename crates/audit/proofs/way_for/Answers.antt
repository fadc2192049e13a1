use Rattle.audit.proofs.Steps as law
use Rattle.audit.proofs.way_for.Goals as goal

pub returns-then-g-eq30 : goal.returns-then-g-eq30
returns-then-g-eq30 c = law.way_for_030 _ _ c.if-g-eq30.true c.way_030.ensures

pub returns : goal.returns
returns c = law.way_for_040 _ _ c.if-g-eq30.false c.way_040.ensures
