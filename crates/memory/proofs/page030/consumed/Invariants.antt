use Rattle.std.proofs.Common.{◌≡◌, ◌+◌, ◌*◌, ◌≤◌, drop}
use Rattle.definition.specs.Walk030.{is_of, sum_of, used, widths_of}
use Rattle.memory.proofs.page030.consumed.Given as goal

abbrev pub invariant-loop-w : goal.invariant-loop-w
invariant-loop-w l = record {
  small : l.sum ≤ 15 + 15 * l.w-index;
  same : l.sum + sum_of (used (drop l.w-index (widths_of l.tc))) ≡ is_of l.tc + sum_of (used (widths_of l.tc));
}
