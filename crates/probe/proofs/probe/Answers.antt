use Rattle.probe.proofs.Probing as law
use Rattle.probe.proofs.probe.Goals as goal

pub returns-then-n-eq0 : goal.returns-then-n-eq0
returns-then-n-eq0 c =
    law.probe_accepted _ _ _ _ _ _ c.no_family-one.ensures c.bad_cache-four.ensures c.first_refusal-n.ensures c.if-n-eq0.true c.probe_in_order.ensures

pub returns : goal.returns
returns c = law.probe_refused _ _ _ _ _ _ c.no_family-one.ensures c.bad_cache-four.ensures c.first_refusal-n.ensures c.if-n-eq0.false
