use Rattle.std.proofs.Common.{ℕ, ◌≡◌, ◌-◌, ◌%◌}
use Rattle.cache.specs.Atc040.{keys_of}
use Rattle.cache.proofs.Lists.{map_to}
use Rattle.cache.proofs.atc040.flush_all_040.Given as goal

abbrev pub invariant-loop-k : goal.invariant-loop-k
invariant-loop-k l = l.k-items ≡ map_to (λ (k : ℕ). k - k % 2) l.k-index (keys_of l.fn.c040)
