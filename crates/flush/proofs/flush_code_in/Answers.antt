use Rattle.std.proofs.Common.{rules}
use Rattle.definition.specs.Cache030.{Cache030, flushed_code}
use Rattle.definition.specs.Flush.{flush_code}
use Rattle.flush.proofs.Flushing as law
use Rattle.flush.proofs.flush_code_in.Goals as goal

pub returns-then-n-ne0 : goal.returns-then-n-ne0
unfolding flush_code
returns-then-n-ne0 c =
    λ k. law.refused_030 _ k (λ (x : Cache030). flushed_code x c.args.code c.args.mask) c.bad_cache-four.ensures c.first_refusal-n.ensures c.if-n-ne0.true (search rules)

pub returns : goal.returns
unfolding flush_code
returns c =
    λ k. law.done_030 _ k (λ (x : Cache030). flushed_code x c.args.code c.args.mask) c.bad_cache-four.ensures c.first_refusal-n.ensures c.if-n-ne0.false c.flush_code.ensures
