use Rattle.std.proofs.Common.{◌≡◌, ◌||◌, drop}
use Rattle.definition.specs.Refusal.{crossed}
use Rattle.definition.specs.Words.{any_of}
use Rattle.memory.proofs.ranges.any_crossed.Given as goal

abbrev pub invariant-loop-i : goal.invariant-loop-i
invariant-loop-i g l =
    let xs = g.R.Ranges.ranges_of l.ranges in
    any_of crossed xs ≡ (l.found || any_of crossed (drop l.i xs))
