-- A number by its digits.
use Rattle.std.specs.Prelude.{ℕ, true, ◌/◌, ◌%◌, ◌^◌, List, [], ◌∷◌}
use Rattle.std.specs.Fmt.{digit_glyph}

-- the hex digit of n at 2 ^ k, upper case
abbrev pub at : ℕ → ℕ → ℕ
at k n = digit_glyph true (n / 2 ^ k % 16)

-- the eight low ones, the highest first
abbrev pub eight : ℕ → List ℕ
eight n = at 28 n ∷ at 24 n ∷ at 20 n ∷ at 16 n ∷ at 12 n ∷ at 8 n ∷ at 4 n ∷ at 0 n ∷ []
