use Rattle.memory.proofs.Touching.{by_ends}
use Rattle.memory.proofs.ranges.touches.Goals as goal

pub returns : goal.returns
returns c = rw c.last_byte-top.ensures (by_ends c.args.first c.args.last c.args.at c.ranges.first.fits c.ranges.at.fits)
