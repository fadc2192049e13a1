use Rattle.memory.proofs.Shifts.{low_shift}
use Rattle.memory.proofs.bits.low_bits.Goals as goal

pub returns-then-consumed-lt32 : goal.returns-then-consumed-lt32
returns-then-consumed-lt32 c = low_shift c.args.address c.args.consumed c.if-consumed-lt32.true
