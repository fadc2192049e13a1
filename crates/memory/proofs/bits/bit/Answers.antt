use Rattle.memory.proofs.Shifts.{no_bit}
use Rattle.memory.proofs.bits.bit.Goals as goal

pub returns : goal.returns
returns c = no_bit c.args.x c.args.k c.if-k-lt32.false c.ranges.x.fits
