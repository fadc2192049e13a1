use Rattle.std.proofs.Common.{rules}
use Rattle.cache.proofs.Slots.{flushed_same_040, flushed_frame_lem}
use Rattle.cache.proofs.atc040.flush_frame.Goals as goal

pub returns-then-k-frame : goal.returns-then-k-frame
returns-then-k-frame c = flushed_same_040 _ (search rules) _ _ c.slot_of-i.ensures.0 c.if-k-frame.true

pub returns : goal.returns
returns c = flushed_frame_lem _ (search rules) _ _ c.slot_of-i.ensures.0 c.if-k-frame.false
