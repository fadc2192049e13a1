use Rattle.audit.proofs.Steps as law
use Rattle.audit.proofs.opened.Goals as goal

pub returns-then-n-ne0 : goal.returns-then-n-ne0
returns-then-n-ne0 c = law.begin_refused _ _ _ _ _ c.refusal-n.ensures c.if-n-ne0.true c.done.ensures

pub returns-then-at_shift : goal.returns-then-at_shift
returns-then-at_shift c =
    law.begin_030 _ _ _ _ _ c.refusal-n.ensures c.if-n-ne0.false c.if-g-eq30.true
    c.number_at-shift.ensures c.at_shift.ensures c.if-at_shift.true c.going_from.ensures

pub returns-then-g-eq30 : goal.returns-then-g-eq30
returns-then-g-eq30 c =
    law.begin_other _ _ _ _ _ c.refusal-n.ensures c.if-n-ne0.false c.if-g-eq30.true
    c.number_at-shift.ensures c.at_shift.ensures c.if-at_shift.false c.done-then-g-eq30.ensures

pub returns : goal.returns
returns c = law.begin_040 _ _ _ _ _ c.refusal-n.ensures c.if-n-ne0.false c.if-g-eq30.false c.going_from-2.ensures
