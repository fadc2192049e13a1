use Rattle.walk030.proofs.Driving as drive
use Rattle.walk030.proofs.walk_030.Given as goal

-- the longs asked for so far, with what is known where the walk stands
abbrev pub invariant-loop-ws : goal.invariant-loop-ws
invariant-loop-ws l = drive.Standing l.tables l.tc l.fn.root l.address l.code l.limit l.s

-- how many descriptors can still be read
abbrev pub decreases-loop-ws : goal.decreases-loop-ws
decreases-loop-ws l = drive.rank l.tables l.tc l.fn.root l.address l.code l.limit l.s
