use Rattle.load.proofs.Loading as law
use Rattle.load.proofs.before.plan_load.Goals as goal

pub returns-then-n-ne0 : goal.returns-then-n-ne0
returns-then-n-ne0 c =
    law.load_refused _ _ _ _ _ _
    (law.load_refusal_is _ _ _ _ _ c.no_family-one.ensures c.not_030-six.ensures c.above_seven-five.ensures c.bad_cache-four.ensures c.first_refusal-n.ensures)
    c.if-n-ne0.true c.told-c030

pub returns-then-not-is_on : goal.returns-then-not-is_on
returns-then-not-is_on c =
    law.load_off _ _ _ _ _ _
    (law.load_refusal_is _ _ _ _ _ c.no_family-one.ensures c.not_030-six.ensures c.above_seven-five.ensures c.bad_cache-four.ensures c.first_refusal-n.ensures)
    c.if-n-ne0.false c.is_on.ensures c.if-not-is_on.true c.told-c030

pub returns : goal.returns
returns c =
    law.load_dropped _ _ _ _ _ _
    (law.load_refusal_is _ _ _ _ _ c.no_family-one.ensures c.not_030-six.ensures c.above_seven-five.ensures c.bad_cache-four.ensures c.first_refusal-n.ensures)
    c.if-n-ne0.false c.is_on.ensures c.if-not-is_on.false c.flush_page.ensures c.stops-stop.ensures c.search_unless.ensures
