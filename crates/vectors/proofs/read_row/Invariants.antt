use Rattle.vectors.proofs.Laws.{Filling}
use Rattle.vectors.proofs.read_row.Given as goal

abbrev pub invariant-loop-i : goal.invariant-loop-i
invariant-loop-i l = Filling l.text l.initial.numbers l.fn.c.at l.numbers l.at.at l.i
