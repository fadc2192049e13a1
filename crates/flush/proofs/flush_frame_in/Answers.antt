use Rattle.std.proofs.Common.{rules}
use Rattle.definition.specs.Cache040.{Cache040, flushed_frame}
use Rattle.definition.specs.Refusal.{bad_frame}
use Rattle.definition.specs.Flush.{flush_frame}
use Rattle.flush.proofs.Flushing as law
use Rattle.flush.proofs.flush_frame_in.Goals as goal

pub returns-then-n-ne0 : goal.returns-then-n-ne0
unfolding flush_frame
returns-then-n-ne0 c =
    λ x. law.refused_040 (bad_frame c.args.frame) x (λ (k : Cache040). flushed_frame k c.args.frame) (rw (← c.bad_frame.ensures) c.first_refusal-n.ensures) c.if-n-ne0.true (search rules)

pub returns : goal.returns
unfolding flush_frame
returns c =
    λ x. law.done_040 (bad_frame c.args.frame) x (λ (k : Cache040). flushed_frame k c.args.frame) (rw (← c.bad_frame.ensures) c.first_refusal-n.ensures) c.if-n-ne0.false c.flush_frame.ensures
