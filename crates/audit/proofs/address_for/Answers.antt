use Rattle.audit.proofs.Steps as law
use Rattle.audit.proofs.address_for.Goals as goal

pub returns-then-g-eq30 : goal.returns-then-g-eq30
returns-then-g-eq30 c = law.address_for_030 _ _ c.if-g-eq30.true c.first_address.ensures

pub returns : goal.returns
returns c = law.address_for_040 _ _ c.if-g-eq30.false c.first_address-2.ensures
