use Rattle.audit.proofs.Steps as law
use Rattle.audit.proofs.refusal.Goals as goal

pub returns : goal.returns
returns c = law.refusal_is _ _ _ _ c.no_family-one.ensures c.bad_cache-four.ensures c.first_refusal.ensures
