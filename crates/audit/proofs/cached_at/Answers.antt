use Rattle.audit.proofs.Steps as law
use Rattle.audit.proofs.cached_at.Goals as goal

pub returns-then-g-eq30 : goal.returns-then-g-eq30
returns-then-g-eq30 c =
    law.cached_030 _ _ _ _ c.if-g-eq30.true c.part_at-key.ensures c.part_at-page.ensures c.number_at-shift.ensures

pub returns : goal.returns
returns c =
    law.cached_040 _ _ _ _ c.if-g-eq30.false c.part_at-key-2.ensures c.part_at-page-2.ensures c.page_bits-bits.ensures
