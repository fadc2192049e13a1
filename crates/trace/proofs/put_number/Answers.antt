use Rattle.std.proofs.Common.{arith}
use Rattle.trace.proofs.Digits.{decimal_short, one_digit}
use Rattle.trace.proofs.Writes.{then}
use Rattle.trace.proofs.put_number.Goals as goal

pub returns-then-n-lt10 : goal.returns-then-n-lt10
returns-then-n-lt10 c = then c.put-from.ensures (one_digit c.args.n c.decimal_digit.ensures c.if-n-lt10.true c.put.ensures)

pub put_decimal-requires : goal.put_decimal-requires
put_decimal-requires c = omega (arith, decimal_short 9 c.args.n (omega arith))
