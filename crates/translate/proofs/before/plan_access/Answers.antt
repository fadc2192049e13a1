use Rattle.std.proofs.Common.{rules}
use Rattle.translate.proofs.Planning as law
use Rattle.translate.proofs.before.plan_access.Goals as goal

pub returns-then-n-ne0 : goal.returns-then-n-ne0
returns-then-n-ne0 c =
    law.plan_refused _ _ _ _ (law.refusal_is _ _ _ _ _ c.no_family-one.ensures c.bad_override-five.ensures c.bad_cache-four.ensures c.first_refusal-n.ensures) c.if-n-ne0.true (search rules)

pub returns-then-not-enabled : goal.returns-then-not-enabled
returns-then-not-enabled c =
    rw c.at_address.ensures (law.plan_off _ _ _ _ (law.refusal_is _ _ _ _ _ c.no_family-one.ensures c.bad_override-five.ensures c.bad_cache-four.ensures c.first_refusal-n.ensures) c.if-n-ne0.false c.is_on-enabled.ensures c.if-not-enabled.true (search rules))

pub returns : goal.returns
returns c =
    law.plan_goes_on _ _ _ _ _ (law.refusal_is _ _ _ _ _ c.no_family-one.ensures c.bad_override-five.ensures c.bad_cache-four.ensures c.first_refusal-n.ensures)
    c.if-n-ne0.false c.is_on-enabled.ensures c.if-not-enabled.false c.plan_on.ensures
