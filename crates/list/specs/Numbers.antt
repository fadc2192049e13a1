-- The lister's numbers: the ranges that it is lent, the ranges that it writes, and what it says of them.
use Rattle.std.specs.Prelude.{ℕ, ◌+◌, ◌*◌, ◌/◌, ◌%◌, ◌^◌, ◌≡◌, List, [], ◌∷◌, ◌++◌, map, Bool, true, false, length, drop}
use Rattle.std.specs.Prelude.{if◌then◌else◌}
use Rattle.definition.specs.List.{Listing}
use Rattle.definition.specs.declared.Range.{Range}
use Rattle.definition.specs.declared.Mapped.{Mapped}
use Rattle.definition.specs.declared.Listed.{Listed}

-- bus-error ranges as numbers, a first and a last address each: what a slice of `Range` has in memory. A number alone at the end is none
unfoldable pub pairs_of : List ℕ → List Range
pairs_of [] = []
pairs_of (first ∷ []) = []
pairs_of (first ∷ last ∷ l) = record { first = first; last = last } ∷ pairs_of l

-- a flag as a number
abbrev pub flag_of : Bool → ℕ
flag_of true = 1
flag_of false = 0

-- 0 a page, 1 with WP, 2 with S, 3 with both; 4 a range whose descriptor can't be fetched
abbrev pub kind_of : Mapped → ℕ
kind_of x = if x.lost then 4 else flag_of x.sup * 2 + flag_of x.wp

-- a range as one number: bits 63:32 its first address, 31:8 its physical start's, and in 7:0 its kind and the bits consumed, 0 to 32
unfoldable pub number_of : Mapped → ℕ
number_of x = x.first * 2 ^ 32 + x.physical / 256 * 256 + kind_of x * 33 + x.consumed % 33

-- a list's answer, and its ranges at the start of the output; behind them the output is as it was
pub record ListedTo (l : Listing) (old new : List ℕ) (r : Listed) : Type 0 where
  pub answer : r ≡ l.answer
  pub wrote : new ≡ map number_of l.ranges ++ drop (length l.ranges) old
