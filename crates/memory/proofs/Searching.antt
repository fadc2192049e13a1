-- The search over a slice of ranges, for any test: what is known after i of them. Assumes nothing.
use mathlib.Core.Path.{◌≡◌, refl, sym, ap, ◌∙◌}
use mathlib.Core.Bool.{Bool, true, false, ◌||◌}
use mathlib.Core.List.{List}
use Prim.Native.Nat.{ℕ, ◌+◌, ◌≤◌, ◌<◌}
use native.Mathlib.Numerals.{add-one}
use lib.ListN.{length, get_or, drop, drop_of_length-le}
use lib.Seq.{drop-cons}
use Rattle.definition.specs.Words.{any_of}
use Rattle.definition.specs.declared.Range.{Range}

or_assoc : (a b c : Bool) → (a || (b || c)) ≡ ((a || b) || c)
or_assoc true b c = refl
or_assoc false b c = refl

or_false : (a : Bool) → (a || false) ≡ a
or_false true = refl
or_false false = refl

module _ (p : Range → Bool) (xs : List Range) (i : ℕ) (hit : Bool) (same : any_of p xs ≡ (hit || any_of p (drop i xs))) where
  -- one range more, where y is whether the test holds of it
  pub next_same : (r d : Range) → i < length xs → r ≡ get_or xs i d → (y : Bool) → y ≡ p r → any_of p xs ≡ ((hit || y) || any_of p (drop (i + 1) xs))
  unfolding any_of
  next_same r d h er y ey =
      let e : y ≡ p (get_or xs i d) = ey ∙ ap p er in
      same ∙ rw (e, add-one, drop-cons xs i d h) (or_assoc hit _ _)

  -- no range left
  pub ends : length xs ≤ i → hit ≡ any_of p xs
  unfolding any_of
  ends l = sym (same ∙ rw (drop_of_length-le xs {i = i} l) (or_false hit))
