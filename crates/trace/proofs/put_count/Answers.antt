use Rattle.trace.proofs.Writes.{then}
use Rattle.trace.proofs.put_count.Goals as goal

pub returns : goal.returns
returns c = then c.put_number-end.ensures c.put.ensures
