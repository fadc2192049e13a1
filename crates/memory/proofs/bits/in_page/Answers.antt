use Rattle.memory.proofs.Shifts.{whole_address}
use Rattle.memory.proofs.bits.in_page.Goals as goal

pub returns : goal.returns
returns c = whole_address c.args.address c.args.shift c.ranges.address.fits c.if-shift-lt32.false
