-- The two registers that an access is compared with, and the comparison by family. This serves the code alone.
use Rattle.std.specs.Prelude.{ℕ, Bool, false, ◌||◌, eqb}
use Rattle.std.specs.Prelude.{if◌then◌else◌}
use Rattle.definition.specs.Words.{bit_of}
use Rattle.definition.specs.Transparent.{matches030, matches040}
use Rattle.definition.specs.declared.Registers.{Registers}

abbrev pub matches_by : ℕ → ℕ → ℕ → ℕ → Bool → Bool
matches_by family tt address code write =
    if eqb family 30
    then matches030 tt address code write
    else if eqb family 40 then matches040 tt address (bit_of code 2) else false

abbrev pub either_by : ℕ → ℕ → ℕ → ℕ → ℕ → Bool → Bool
either_by family first second address code write =
    matches_by family first address code write || matches_by family second address code write

abbrev pub first_by : Registers → Bool → ℕ
first_by g instruction = if eqb g.family 30 then g.tt0 else if instruction then g.itt0 else g.dtt0

abbrev pub second_by : Registers → Bool → ℕ
second_by g instruction = if eqb g.family 30 then g.tt1 else if instruction then g.itt1 else g.dtt1
