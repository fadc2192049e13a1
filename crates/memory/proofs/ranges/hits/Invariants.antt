use Rattle.std.proofs.Common.{◌≡◌, ◌||◌, drop}
use Rattle.definition.specs.Memory.{in_ranges}
use Rattle.memory.proofs.ranges.hits.Given as goal

abbrev pub invariant-loop-i : goal.invariant-loop-i
invariant-loop-i g l =
    let xs = g.R.Ranges.ranges_of l.ranges in
    in_ranges xs l.at ≡ (l.hit || in_ranges (drop l.i xs) l.at)
