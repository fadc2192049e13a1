use Rattle.trace.proofs.Writes.{put_there}
use Rattle.trace.proofs.put.Goals as goal

pub returns : goal.returns
returns c = put_there _ _ _ _ c.requires c.copy_from_slice.ensures.after
