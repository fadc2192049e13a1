use Rattle.std.proofs.Common.{arith}
use Rattle.definition.specs.Trace.{text}
use Rattle.trace.proofs.Texts.{fault, status}
use Rattle.trace.proofs.Writes.{then, loosely}
use Rattle.trace.proofs.put_text.Goals as goal

pub returns-in-A : goal.returns-in-A
unfolding text
returns-in-A c = rw c.in-A.is (loosely 44 (omega arith) (then c.put-next.ensures c.put_address.ensures))

pub returns-in-F : goal.returns-in-F
returns-in-F c =
    rw c.in-F.is
    (loosely 44 (omega arith)
    (rw (fault _ _ _ _)
    at (then c.put-next-in-F.ensures (then c.put_number-after.ensures (then c.put_number-last.ensures c.put_address-in-F.ensures)))))

pub returns-in-L : goal.returns-in-L
unfolding text
returns-in-L c = rw c.in-L.is (loosely 44 (omega arith) (then c.put-next-in-L.ensures c.put_count.ensures))

pub returns-in-T : goal.returns-in-T
returns-in-T c =
    rw c.in-T.is
    (loosely 44 (omega arith)
    (rw (status _ _ _) at (then c.put-next-in-T.ensures (then c.put_status-last.ensures c.put_address-in-T.ensures))))

pub returns-in-K : goal.returns-in-K
unfolding text
returns-in-K c = rw c.in-K.is (loosely 44 (omega arith) (then c.put-next-in-K.ensures c.put.ensures))

pub returns-in-N : goal.returns-in-N
unfolding text
returns-in-N c = rw c.in-N.is (loosely 44 (omega arith) (then c.put-next-in-N.ensures c.put-in-N.ensures))

pub returns-in-R : goal.returns-in-R
unfolding text
returns-in-R c = rw c.in-R.is (loosely 44 (omega arith) (then c.put-next-in-R.ensures c.put_count-in-R.ensures))
