use Rattle.std.proofs.Common.{◌≡◌, ◌+◌, ◌≤◌, eqb, drop}
use Rattle.definition.specs.Words.{first_of}
use Rattle.cache.specs.Atc030.{tags_of}
use Rattle.cache.proofs.atc030.first_with.Given as goal

abbrev pub invariant-loop-i : goal.invariant-loop-i
invariant-loop-i l = (l.i ≤ 22) × (l.found ≡ l.i + first_of (eqb l.key) (drop l.i (tags_of l.c030)))

abbrev pub decreases-loop-i : goal.decreases-loop-i
decreases-loop-i l = l.i
