use Rattle.std.proofs.Common.{append_assoc}
use Rattle.trace.proofs.Digits.{hex_eight}
use Rattle.trace.proofs.Writes.{then}
use Rattle.trace.proofs.put_address.Goals as goal

pub returns : goal.returns
returns c =
    simp append_assoc
    (then c.put-high.ensures
    (then (rw (hex_eight c.args.address) at (then c.put_hex-low.ensures c.put_hex-end.ensures)) c.put_count.ensures))
