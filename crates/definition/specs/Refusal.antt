-- Document 01, 'Numbers of refusal': what each number says, and the order in which they are given.
use Rattle.std.specs.Prelude.{ℕ, ◌+◌, ◌*◌, ◌%◌, ◌^◌, List, [], ◌∷◌, Bool, false, not, ◌&&◌, ◌||◌, ltb, leb, eqb, length, if◌then◌else◌, Option, Some, None}
use Rattle.definition.specs.Words.{any_of}
use Rattle.definition.specs.Memory.{Memory}
use Rattle.definition.specs.Cache030.{Cache030}
use Rattle.definition.specs.Types.{Range}

-- 1: 'family not 30, 40, 60'
abbrev pub no_family : ℕ → Bool
no_family family = not (eqb family 30 || eqb family 40 || eqb family 60)

-- 2: 'base not a multiple of 4, or base + 4 x longs above 2^32'
abbrev pub bad_base : Memory → Bool
bad_base m = not (eqb (m.base % 4) 0 && leb (m.base + 4 * length m.longs) (2 ^ 32))

-- 2: 'program: a store outside the longs or not aligned', at longs from 0 on
abbrev pub bad_store : List ℕ → ℕ → Bool
bad_store longs address = not (eqb (address % 4) 0 && ltb address (4 * length longs))

-- 3: 'a range whose first is above its last'
abbrev pub crossed : Range → Bool
crossed r = ltb r.last r.first

-- of any of the ranges
abbrev pub bad_range : Memory → Bool
bad_range m = any_of crossed m.ranges

-- 4: '030 cache with most-recent index above 21 or shift above 31'
abbrev pub bad_cache : Cache030 → Bool
bad_cache c = ltb 21 c.recent || ltb 31 c.shift

-- 5: 'override, function code, mask or PTEST level above 7'
abbrev pub above_seven : ℕ → Bool
above_seven n = ltb 7 n

-- of an override
abbrev pub bad_override : Option ℕ → Bool
bad_override None = false
bad_override (Some code) = above_seven code

-- 5: '040 page frame of 2^20 or more'
abbrev pub bad_frame : ℕ → Bool
bad_frame frame = leb (2 ^ 20) frame

-- 6: 'PLOAD or PTEST on family 40 or 60'
abbrev pub not030 : ℕ → Bool
not030 family = eqb family 40 || eqb family 60

-- how many ranges the program keeps
abbrev pub most_ranges : ℕ
most_ranges = 16

-- 8: 'program: a seventeenth range'
abbrev pub no_room : List Range → Bool
no_room ranges = leb most_ranges (length ranges)

-- what applies to a call, by number. 'Only checks on what a call takes apply to it': the others are false
pub record Checks : Type 0 where
  pub one : Bool
  pub two : Bool
  pub three : Bool
  pub four : Bool
  pub five : Bool
  pub six : Bool
  pub eight : Bool

-- what applies, in the order of the numbers
abbrev pub checks : Bool → Bool → Bool → Bool → Bool → Bool → Bool → Checks
checks one two three four five six eight =
    record { one = one; two = two; three = three; four = four; five = five; six = six; eight = eight }

-- a check: whether it applies, and its number
pub record Check : Type 0 where
  pub applies : Bool
  pub number : ℕ

-- by its parts
abbrev pub check : Bool → ℕ → Check
check applies number = record { applies = applies; number = number }

-- the number of the first that applies, 0 where none does
abbrev pub first_that : List Check → ℕ
first_that [] = 0
first_that (k ∷ ks) = if k.applies then k.number else first_that ks

-- 'the order 1, 6, 5, 2, 3, 4, 8'
abbrev pub ordered : Checks → List Check
ordered k =
    check k.one 1
    ∷ check k.six 6
    ∷ check k.five 5
    ∷ check k.two 2
    ∷ check k.three 3
    ∷ check k.four 4
    ∷ check k.eight 8
    ∷ []

-- 'Where several apply, the first in the order .. is given; none is given otherwise.'
unfoldable pub refusal_of : Checks → ℕ
refusal_of k = first_that (ordered k)

-- a call's answer, or its refusal
abbrev pub unless : {A : Type 0} → Checks → (ℕ → A) → A → A
unless k refused answer = if eqb (refusal_of k) 0 then answer else refused (refusal_of k)
