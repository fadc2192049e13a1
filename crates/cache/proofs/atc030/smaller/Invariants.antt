use Rattle.std.proofs.Common.{◌≡◌, ◌≤◌, ℕ, ltb, take}
use Rattle.std.specs.List.{count_by}
use Rattle.cache.specs.Atc030.{stamps_of}
use Rattle.cache.proofs.atc030.smaller.Given as goal

abbrev pub invariant-loop-i : goal.invariant-loop-i
invariant-loop-i l = (l.n ≤ l.i) × (l.n ≡ count_by (λ (y : ℕ). ltb y l.x) (take l.i (stamps_of l.c030)))
