use Rattle.std.proofs.Common.{◌≡◌, ◌+◌, length, drop}
use Rattle.definition.specs.Walk030.{used}
use Rattle.walk030.proofs.machine.level_count.Given as goal

-- the `n` widths passed are used, and those from `n` on decide
abbrev pub invariant-loop-n : goal.invariant-loop-n
invariant-loop-n l = length (used l.fn.ws) ≡ l.n + length (used (drop l.n l.fn.ws))
