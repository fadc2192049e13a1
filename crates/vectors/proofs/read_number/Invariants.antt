use Rattle.vectors.proofs.Laws.{Reading}
use Rattle.vectors.proofs.read_number.Given as goal

abbrev pub invariant-loop-i : goal.invariant-loop-i
invariant-loop-i l = Reading l.text l.start l.value l.i
