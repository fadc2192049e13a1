use Rattle.std.proofs.Common.{rules}
use Rattle.definition.specs.Cache030.{Cache030, flushed_page}
use Rattle.definition.specs.Flush.{flush_page}
use Rattle.flush.proofs.Flushing as law
use Rattle.flush.proofs.flush_page_in.Goals as goal

pub returns-then-n-ne0 : goal.returns-then-n-ne0
unfolding flush_page
returns-then-n-ne0 c =
    λ k. law.refused_030 _ k (λ (x : Cache030). flushed_page x c.args.code c.args.mask c.args.address) c.bad_cache-four.ensures c.first_refusal-n.ensures c.if-n-ne0.true (search rules)

pub returns : goal.returns
unfolding flush_page
returns c =
    λ k. law.done_030 _ k (λ (x : Cache030). flushed_page x c.args.code c.args.mask c.args.address) c.bad_cache-four.ensures c.first_refusal-n.ensures c.if-n-ne0.false c.flush_page.ensures
