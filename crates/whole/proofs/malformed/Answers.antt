use Rattle.whole.proofs.Showing.{put}
use Rattle.whole.proofs.malformed.Goals as goal

pub returns : goal.returns
returns c = put c.put_line.ensures (c.has_room.ensures.room c.if-not-has_room.false)
