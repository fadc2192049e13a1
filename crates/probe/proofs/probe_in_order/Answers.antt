use Rattle.std.proofs.Common.{not, ap}
use Rattle.probe.proofs.Probing as law
use Rattle.probe.proofs.probe_in_order.Goals as goal

pub returns-then-not-is_on : goal.returns-then-not-is_on
returns-then-not-is_on c = law.probe_off _ _ _ _ _ _ c.is_on.ensures (ap not c.if-not-is_on.true)

pub returns-then-is_transparent : goal.returns-then-is_transparent
returns-then-is_transparent c =
    law.probe_transparent _ _ _ _ _ _ c.is_on.ensures (ap not c.if-not-is_on.false) c.code_of-code.ensures c.is_transparent.ensures c.if-is_transparent.true

pub returns-then-g-eq30 : goal.returns-then-g-eq30
returns-then-g-eq30 c =
    law.probe_by_030 _ _ _ _ _ _ c.is_on.ensures (ap not c.if-not-is_on.false) c.code_of-code.ensures c.is_transparent.ensures c.if-is_transparent.false c.if-g-eq30.true c.probe_030.ensures

pub returns : goal.returns
returns c =
    law.probe_by_040 _ _ _ _ _ _ c.is_on.ensures (ap not c.if-not-is_on.false) c.code_of-code.ensures c.is_transparent.ensures c.if-is_transparent.false c.if-g-eq30.false c.probe_040.ensures
