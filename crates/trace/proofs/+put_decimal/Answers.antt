use Rattle.std.proofs.Common.{ap, arith, length}
use Rattle.trace.proofs.Digits.{decimal_one, longer, one_digit, more_digits}
use Rattle.trace.proofs.+put_decimal.Goals as goal

pub put-requires : goal.put-requires
put-requires t c = omega (arith, ap length (decimal_one c.args.n c.if-n-lt10.true))

pub returns-then-n-lt10 : goal.returns-then-n-lt10
returns-then-n-lt10 t c = one_digit c.args.n c.decimal_digit.ensures c.if-n-lt10.true c.put.ensures

pub put_decimal-last-requires : goal.put_decimal-last-requires
put_decimal-last-requires t c = (omega arith, omega (arith, longer c.args.n c.if-n-lt10.false))

pub put-requires-2 : goal.put-requires-2
put-requires-2 t c = omega (arith, longer c.args.n c.if-n-lt10.false, c.put_decimal-last.ensures.ends)

pub returns : goal.returns
returns t c = more_digits c.args.n c.decimal_digit-2.ensures c.if-n-lt10.false (omega arith) c.put_decimal-last.ensures c.put-2.ensures
