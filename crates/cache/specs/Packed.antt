-- Words on numbers with flags in their low bits, and on the parts of an array.
use Rattle.std.specs.Prelude.{ℕ, ◌-◌, ◌%◌, Bool, List, eqb, take, drop, if◌then◌else◌}

abbrev pub bit : Bool → ℕ
bit b = if b then 1 else 0

abbrev pub odd : ℕ → Bool
odd n = eqb (n % 2) 1

-- the low bit is cleared, where the test says so
abbrev pub drop_tag : Bool → ℕ → ℕ
drop_tag b t = if b then t - t % 2 else t

-- the n numbers from place o on
unfoldable pub part : ℕ → ℕ → List ℕ → List ℕ
part o n l = take n (drop o l)
