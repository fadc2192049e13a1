-- Laws of the index widths. Assumes nothing.
use Prim.Native.Nat.{ℕ, zero, suc, ◌+◌, ◌≤◌, ◌<◌}
use mathlib.Core.Path.{◌≡◌, refl}
use mathlib.Core.List.{List, [], ◌∷◌}
use mathlib.Core.Bool.{Bool, true, false}
use native.Mathlib.Omega.{arith}
use native.Mathlib.Numerals.{add-one}
use borrow.Author.Tests.{ne_eqb, eqb-false}
use lib.Dec.{eqb}
use lib.ListN.{length, get_or, drop}
use lib.Seq.{drop-cons}
use Rattle.std.specs.Prelude.{if◌then◌else◌}
use Rattle.definition.specs.Walk030.{widths_of, used}

pub used_more : (l : List ℕ) (n : ℕ) → n < length l → (get_or l n 0 ≡ 0 → ⊥) → used (drop n l) ≡ get_or l n 0 ∷ used (drop (n + 1) l)
used_more l n h z = rw (drop-cons l n 0, ne_eqb (get_or l n 0) 0 z, add-one)

-- the widths are below 16, and those that are used are not zero
pub width_small : (tc k : ℕ) → get_or (widths_of tc) k 0 < 16
unfolding widths_of
width_small tc zero = omega arith
width_small tc (suc zero) = omega arith
width_small tc (suc (suc zero)) = omega arith
width_small tc (suc (suc (suc zero))) = omega arith
width_small tc (suc (suc (suc (suc k)))) = omega arith

used_here : (w : ℕ) (ws : List ℕ) → ((k : ℕ) → k < length (used ws) → (get_or (used ws) k 0 ≡ get_or ws k 0) × (0 < get_or ws k 0))
    → (t : Bool) → eqb w 0 ≡ t → (k : ℕ) → k < length (if t then [] else w ∷ used ws)
    → (get_or (if t then [] else w ∷ used ws) k 0 ≡ get_or (w ∷ ws) k 0) × (0 < get_or (w ∷ ws) k 0)
used_here w ws ih true e k h = absurd (omega arith)
used_here w ws ih false e zero h = let z = eqb-false w 0 e in (refl, omega arith)
used_here w ws ih false e (suc k) h = ih k (omega arith)

pub used_at : (l : List ℕ) (k : ℕ) → k < length (used l) → (get_or (used l) k 0 ≡ get_or l k 0) × (0 < get_or l k 0)
used_at [] k h = absurd (omega arith)
used_at (w ∷ ws) k h = used_here w ws (used_at ws) (eqb w 0) refl k h

used_fewer : (w : ℕ) (ws : List ℕ) → length (used ws) ≤ length ws → (t : Bool) → length (if t then [] else w ∷ used ws) ≤ suc (length ws)
used_fewer w ws ih true = omega arith
used_fewer w ws ih false = omega arith

pub used_few : (l : List ℕ) → length (used l) ≤ length l
used_few [] = omega arith
used_few (w ∷ ws) = used_fewer w ws (used_few ws) (eqb w 0)

pub widths_few : (tc : ℕ) → length (used (widths_of tc)) ≤ 4
unfolding widths_of
widths_few tc = used_few (widths_of tc)
