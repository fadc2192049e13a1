-- Document 01, 'What a call is given': table memory, and what asking for one long gives.
use Rattle.std.specs.Prelude.{ℕ, ◌+◌, ◌-◌, ◌/◌, ◌%◌, List, Bool, not, ◌&&◌, ◌||◌, length, get_or, ltb, leb, eqb, if◌then◌else◌, Option, Some, None}
use Rattle.definition.specs.Words.{any_of}
use Rattle.definition.specs.Types.{Range}

-- 'lent longs from a base address, and bus-error ranges'
pub record Memory : Type 0 where
  pub longs : List ℕ
  pub base : ℕ
  pub ranges : List Range

-- by its parts
abbrev pub memory : List ℕ → ℕ → List Range → Memory
memory longs base ranges = record { longs = longs; base = base; ranges = ranges }

-- 'each a first and a last address, both inside': the byte at b lies in it
abbrev pub within : ℕ → ℕ → ℕ → Bool
within first last b = leb first b && leb b last

-- 'any of its four bytes lies in a range', of the long at `at` and one range
unfoldable pub touches_of : ℕ → ℕ → ℕ → Bool
touches_of first last at =
    within first last at || within first last (at + 1) || within first last (at + 2) || within first last (at + 3)

-- of the long at `at` and all of them
abbrev pub in_ranges : List Range → ℕ → Bool
in_ranges ranges at = any_of (λ (r : Range). touches_of r.first r.last at) ranges

-- the long at `at` is one of the longs. Once check 2 has passed, (at - base) % 4 is 0 at every long that a walk asks for
abbrev pub inside : List ℕ → ℕ → ℕ → Bool
inside longs base at = leb base at && eqb ((at - base) % 4) 0 && ltb ((at - base) / 4) (length longs)

-- 'A long fails if it lies outside the longs or any of its four bytes lies in a range.'
abbrev pub fetch_with : List ℕ → ℕ → ℕ → Bool → Option ℕ
fetch_with longs base at hit =
    if inside longs base at && not hit then Some (get_or longs ((at - base) / 4) 0) else None

-- what asking for the long at `at` gives
abbrev pub fetch_of : Memory → ℕ → Option ℕ
fetch_of m at = fetch_with m.longs m.base at (in_ranges m.ranges at)
