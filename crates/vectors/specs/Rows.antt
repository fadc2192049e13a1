-- The text that rows are read from: decimal numbers below 2^32, each closed by a space, and a row's last by a line's end.
use Rattle.std.specs.Prelude.{ℕ, zero, suc, ◌+◌, ◌*◌, ◌-◌, ◌^◌, ◌≤◌, ◌<◌, Bool, cond, ◌&&◌, ◌||◌, List, [], ◌∷◌, ◌++◌, ltb, leb, eqb, take, drop, Option, None, Some, Result, Ok, Err}
use Rattle.vectors.specs.declared.Number.{Number}
use Rattle.vectors.specs.declared.Row.{Row}
use Rattle.vectors.specs.declared.Malformed.{Malformed}

-- what stands at a place: something, or the text ends before it does, or it is malformed
abbrev pub Found : Type 0 → Type 0
Found A = Result (Option A) Malformed

abbrev pub malformed : {A : Type 0} → Found A
malformed = Err record {}

-- ---- a number
-- the digit that a byte is
abbrev pub digit_of : ℕ → Option ℕ
digit_of b = cond (leb 48 b && leb b 57) (Some (b - 48)) None

-- the byte b comes after the digits, if there are some
abbrev pub closed_by : Bool → ℕ → ℕ → ℕ → Found Number
closed_by some value b next =
    cond (some && (eqb b 32 || eqb b 10)) (Ok (Some (record { value = value; last = eqb b 10; next = record { at = next } }))) malformed

abbrev pub on_digit : Found Number → (ℕ → Found Number) → Option ℕ → Found Number
on_digit none more None = none
on_digit none more (Some d) = more d

-- what the bytes from index i on give, where the digits from start up to i make value
unfoldable pub number_from : ℕ → ℕ → ℕ → List ℕ → Found Number
number_from start value i [] = Ok None
number_from start value i (b ∷ rest) =
    on_digit (closed_by (ltb start i) value b (i + 1))
    (λ d. cond (leb (2 ^ 32) (value * 10 + d)) malformed (number_from start (value * 10 + d) (i + 1) rest)) (digit_of b)

abbrev pub number_at : List ℕ → ℕ → Found Number
number_at text at = number_from at 0 at (drop at text)

-- a number ends in the text, after its start
abbrev pub Ahead : Found Number → ℕ → ℕ → Type 0
Ahead (Ok (Some n)) at size = (at < n.next.at) × (n.next.at ≤ size)
Ahead (Ok None) at size = Unit
Ahead (Err e) at size = Unit

-- ---- a row: its numbers, and the index after it
abbrev pub after : List ℕ → Found (List ℕ × ℕ) → Found (List ℕ × ℕ)
after first (Ok (Some (values, next))) = Ok (Some (first ++ values, next))
after first (Ok None) = Ok None
after first (Err e) = Err e

abbrev pub on_number : (ℕ → Found (List ℕ × ℕ)) → Found Number → Found (List ℕ × ℕ)
on_number more (Ok (Some n)) = cond n.last (Ok (Some (n.value ∷ [], n.next.at))) (after (n.value ∷ []) (more n.next.at))
on_number more (Ok None) = Ok None
on_number more (Err e) = Err e

-- the row at an index, of at most so many numbers
unfoldable pub row_at : List ℕ → ℕ → ℕ → Found (List ℕ × ℕ)
row_at text zero at = malformed
row_at text (suc room) at = on_number (λ (next : ℕ). row_at text room next) (number_at text at)

-- what an answer says, with the numbers that were put
abbrev pub shown : Found Row → List ℕ → Found (List ℕ × ℕ)
shown (Ok (Some r)) numbers = Ok (Some (take r.count numbers, r.next.at))
shown (Ok None) numbers = Ok None
shown (Err e) numbers = Err e

-- a row has numbers, no more than there is room for, and ends in the text, after its start
abbrev pub Within : Found Row → ℕ → ℕ → ℕ → Type 0
Within (Ok (Some r)) room size at = (0 < r.count) × (r.count ≤ room) × (at < r.next.at) × (r.next.at ≤ size)
Within (Ok None) room size at = Unit
Within (Err e) room size at = Unit
