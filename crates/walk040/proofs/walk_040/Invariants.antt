use Rattle.walk040.proofs.Driving.{Turn, depth}
use Rattle.walk040.proofs.walk_040.Given as goal

abbrev pub invariant-loop-x : goal.invariant-loop-x
invariant-loop-x l = Turn l.tables l.tc l.first l.address l.s

abbrev pub decreases-loop-x : goal.decreases-loop-x
decreases-loop-x l = depth l.s.level
