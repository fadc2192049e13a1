use Rattle.std.proofs.Common.{refl}
use Rattle.cache.proofs.Laws030.{touched_same, touched_put}
use Rattle.cache.proofs.atc030.touch.Goals as goal
use Rattle.cache.proofs.atc030.touch.Goals.{else-recorded-via-then-recorded+else-c030-i, else-recorded-via-else-recorded}

pub returns-then-c030-i : goal.returns-then-c030-i
returns-then-c030-i c = rw c.if-recorded.true (touched_put _ c.told-c030 _ _ c.if-c030-i.true c.stamp.ensures)

pub returns-else-recorded : goal.returns-else-recorded
returns-else-recorded c = elim c.else-recorded.branch [
  | else-recorded-via-then-recorded+else-c030-i w ↦ rw w.if-recorded.true (touched_same _ c.told-c030 _ w.if-c030-i.false)
  | else-recorded-via-else-recorded w ↦ rw w.if-recorded.false (record { leaves = refl; sized = c.told-c030 })
]
