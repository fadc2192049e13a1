-- The ranges that numbers make, two for each. Assumes nothing.
use Prim.Native.Nat.{ℕ, zero, suc, ◌+◌, ◌*◌, ◌/◌, ◌<◌}
use mathlib.Core.Path.{◌≡◌, refl, ◌∙◌}
use mathlib.Core.List.{List, [], ◌∷◌}
use native.Mathlib.Omega.{arith}
use lib.ListN.{length, get_or}
use Rattle.definition.specs.declared.Range.{Range}
use Rattle.list.specs.Numbers.{pairs_of}

pub length_pairs : (l : List ℕ) → length (pairs_of l) ≡ length l / 2
unfolding pairs_of
length_pairs [] = refl
length_pairs (x ∷ []) = refl
length_pairs (x ∷ y ∷ l) = omega (arith, length_pairs l)

pub pairs_at : (l : List ℕ) (i : ℕ) (d : Range) → i < length (pairs_of l)
    → record { first = get_or l (i * 2) 0; last = get_or l (i * 2 + 1) 0 } ≡ get_or (pairs_of l) i d
unfolding pairs_of
pairs_at [] i d h = absurd (omega arith)
pairs_at (x ∷ []) i d h = absurd (omega arith)
pairs_at (x ∷ y ∷ l) zero d h = refl
pairs_at (x ∷ y ∷ l) (suc i) d h =
    let first : suc i * 2 ≡ suc (suc (i * 2)) = omega arith in
    let last : suc i * 2 + 1 ≡ suc (suc (i * 2 + 1)) = omega arith in
    rw (last, first) (pairs_at l i d (omega arith))
