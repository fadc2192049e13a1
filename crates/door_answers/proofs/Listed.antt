-- Single answers and refusals of the lister, by its own numbers and as a host is told them: a refused list leaves the output as it was. Assumes nothing.
use Prim.Native.Nat.{ℕ}
use mathlib.Core.Path.{◌≡◌, refl, ap, sym, ◌∙◌}
use mathlib.Core.List.{List, [], ◌∷◌, ◌++◌, map}
use mathlib.Core.Bool.{Bool, true, false}
use native.Mathlib.Omega.{arith}
use lib.Dec.{eqb}
use lib.ListN.{length, get_or, take, drop}
use Rattle.std.specs.Prelude.{if◌then◌else◌}
use Rattle.definition.specs.Memory.{Memory}
use Rattle.definition.specs.Refusal.{refusal_of}
use Rattle.definition.specs.List.{Listing, ranges_from, mapped, room_for, stopping, not_taken, list_checks, refusing, list}
use Rattle.definition.specs.declared.Registers.{Registers}
use Rattle.definition.specs.declared.Mapped.{Mapped}
use Rattle.definition.specs.declared.Listed.{Listed}
use Rattle.list.specs.Numbers.{number_of, ListedTo}
use Rattle.host_list.specs.Numbers.{list_numbers, ListedAs}

pub list_single : {l : Listing} {old new new' : List ℕ} {r r' : Listed} → ListedTo l old new r → ListedTo l old new' r' → (r ≡ r') × (new ≡ new')
list_single a b = (a.answer ∙ sym b.answer, a.wrote ∙ sym b.wrote)

pub list_single_at_host : {l : Listing} {old new new' answer answer' : List ℕ} → ListedAs l old new answer → ListedAs l old new' answer'
    → (answer ≡ answer') × (new ≡ new')
list_single_at_host a b = (a.answers ∙ sym b.answers, a.wrote ∙ sym b.wrote)

-- ---- a refused list has no range
-- a list that is not refused is told as 0 or 1
stopping_told : (count : ℕ) (xs : List Mapped) → get_or (list_numbers (stopping count xs)) 0 0 ≡ 2 → ⊥
stopping_told count [] e = omega (arith, e)
stopping_told count (x ∷ xs) e = omega (arith, e)

no_ranges : (g : Registers) (m : Memory) (code from room : ℕ) → get_or (list_numbers (list g m code from room).answer) 0 0 ≡ 2 → (list g m code from room).ranges ≡ []
unfolding list
no_ranges g m code from room = go (eqb (refusal_of (list_checks g m code)) 0) (not_taken g code)
  where
    xs : List Mapped
    xs = ranges_from from (mapped g m code)

    go : (b d : Bool) → get_or (list_numbers (if b then if d then refusing 9 else room_for room xs else refusing (refusal_of (list_checks g m code))).answer) 0 0 ≡ 2
        → (if b then if d then refusing 9 else room_for room xs else refusing (refusal_of (list_checks g m code))).ranges ≡ []
    go true true e = refl
    go true false e = absurd (stopping_told (length (take room xs)) (drop room xs) e)
    go false d e = refl

-- so nothing is written
leaves : (ranges : List Mapped) {old new : List ℕ} → ranges ≡ [] → new ≡ map number_of ranges ++ drop (length ranges) old → new ≡ old
leaves ranges {old} e w = w ∙ ap (λ (l : List Mapped). map number_of l ++ drop (length l) old) e

module _ (g : Registers) (m : Memory) (code from room : ℕ) {old new : List ℕ} where
  pub list_keeps : {r : Listed} (n : ℕ) → ListedTo (list g m code from room) old new r → r ≡ Listed.Refused n → new ≡ old
  list_keeps n k e =
      leaves (list g m code from room).ranges (no_ranges g m code from room (ap (λ (r : Listed). get_or (list_numbers r) 0 0) (sym k.answer ∙ e))) k.wrote

  pub list_keeps_at_host : {answer : List ℕ} → ListedAs (list g m code from room) old new answer → get_or answer 0 0 ≡ 2 → new ≡ old
  list_keeps_at_host k e =
      leaves (list g m code from room).ranges (no_ranges g m code from room (sym (ap (λ (l : List ℕ). get_or l 0 0) k.answers) ∙ e)) k.wrote
