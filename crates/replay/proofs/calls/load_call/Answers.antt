use Rattle.std.proofs.Common.{refl}
use Rattle.cache.specs.Atc040.{cache040_of}
use Rattle.replay.proofs.Calling as law
use Rattle.replay.proofs.calls.load_call.Goals as goal

pub returns : goal.returns
returns c = law.of_load _ _ _ _ _ _ _ _ refl (rw c.as_slice-ranges.ensures at (c.load-o.ensures (cache040_of c.args.c040.now))) c.load_line.ensures
