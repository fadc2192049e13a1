-- What the search of the ranges computes once for its long, and what stands past the last range. This serves the code alone.
use Rattle.std.specs.Prelude.{ℕ, ◌+◌, ltb}
use Rattle.std.specs.Prelude.{if◌then◌else◌}
use Rattle.definition.specs.declared.Range.{Range}

-- past the last range
abbrev pub nowhere : Range
nowhere = record { first = 0; last = 0 }

-- the last byte of the long at `at` that an address names
abbrev pub last_byte : ℕ → ℕ
last_byte at = if ltb at 4294967293 then at + 3 else 4294967295
