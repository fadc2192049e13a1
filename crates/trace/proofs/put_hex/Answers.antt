use Rattle.trace.proofs.Digits.{hex_four}
use Rattle.trace.proofs.put_hex.Goals as goal

pub returns : goal.returns
returns c = rw (hex_four c.args.n c.hex_digit.ensures c.hex_digit-2.ensures c.hex_digit-3.ensures c.hex_digit-4.ensures) at c.put.ensures
