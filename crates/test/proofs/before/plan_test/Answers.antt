use Rattle.test.proofs.Testing as law
use Rattle.test.proofs.before.plan_test.Goals as goal

pub returns-then-n-ne0 : goal.returns-then-n-ne0
returns-then-n-ne0 c =
    law.test_refused _ _ _ _ _ _ _
    (law.test_refusal_is _ _ _ _ _ c.no_family-one.ensures c.not_030-six.ensures c.above_seven.ensures c.above_seven-2.ensures c.first_refusal-n.ensures)
    c.if-n-ne0.true

pub returns-then-level-eq0 : goal.returns-then-level-eq0
returns-then-level-eq0 c =
    law.test_level_0 _ _ _ _ _ _ _
    (law.test_refusal_is _ _ _ _ _ c.no_family-one.ensures c.not_030-six.ensures c.above_seven.ensures c.above_seven-2.ensures c.first_refusal-n.ensures)
    c.if-n-ne0.false c.if-level-eq0.true c.transparent_030-matched.ensures c.flag_of-mmusr.ensures

pub returns : goal.returns
returns c =
    law.test_walks _ _ _ _ _ _ _
    (law.test_refusal_is _ _ _ _ _ c.no_family-one.ensures c.not_030-six.ensures c.above_seven.ensures c.above_seven-2.ensures c.first_refusal-n.ensures)
    c.if-n-ne0.false c.if-level-eq0.false
