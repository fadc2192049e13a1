use Rattle.std.proofs.Common.{refl}
use Rattle.translate.proofs.Planning as law
use Rattle.translate.proofs.before.plan_on.Goals as goal

pub returns-then-is_transparent : goal.returns-then-is_transparent
returns-then-is_transparent c =
    rw c.at_address.ensures (law.plan_transparent _ _ c.requires c.compared_code-compared.ensures c.as_instruction-instruction.ensures c.if-is_transparent.ensures refl)

pub returns-then-g-eq30 : goal.returns-then-g-eq30
returns-then-g-eq30 c =
    law.plan_by_030 _ _ c.requires c.compared_code-compared.ensures c.as_instruction-instruction.ensures c.if-is_transparent.ensures refl c.if-g-eq30.true c.walk_code-code.ensures c.plan_030.ensures

pub returns : goal.returns
returns c =
    law.plan_by_040 _ _ c.requires c.compared_code-compared.ensures c.as_instruction-instruction.ensures c.if-is_transparent.ensures refl c.if-g-eq30.false c.as_supervisor-supervisor.ensures c.plan_040.ensures
