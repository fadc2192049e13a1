use Rattle.std.proofs.Common.{rules}
use Rattle.flush.proofs.Flushing as law
use Rattle.flush.proofs.flush_all_in.Goals as goal

pub returns-then-n-ne0 : goal.returns-then-n-ne0
returns-then-n-ne0 c = law.refused_all c.bad_cache-four.ensures c.first_refusal-n.ensures c.if-n-ne0.true (search rules)

pub returns : goal.returns
returns c = law.done_all c.bad_cache-four.ensures c.first_refusal-n.ensures c.if-n-ne0.false c.flush_all.ensures c.flush_all_040.ensures
