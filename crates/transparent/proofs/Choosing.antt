-- Laws of `is_transparent`: comparing the two registers that are chosen is comparing by the definition. Assumes nothing.
use Prim.Native.Nat.{ℕ}
use mathlib.Core.Path.{◌≡◌, refl, sym, ◌∙◌}
use mathlib.Core.Bool.{Bool, true, false, ◌||◌}
use lib.Dec.{eqb}
use Rattle.std.specs.Prelude.{if◌then◌else◌}
use Rattle.definition.specs.Words.{bit_of}
use Rattle.definition.specs.Transparent.{matches030, matches040, transparent030, transparent040, transparent}
use Rattle.definition.specs.declared.Registers.{Registers}
use Rattle.transparent.proofs.Choices.{neither}
use Rattle.transparent.specs.Chosen.{matches_by, either_by, first_by, second_by}

module _ (g : Registers) (address code : ℕ) (instruction write : Bool) where
  by_family : either_by g.family (first_by g instruction) (second_by g instruction) address code write ≡ transparent g address code instruction write
  unfolding transparent
  by_family = go (eqb g.family 30) (eqb g.family 40) instruction
    where
      by : Bool → Bool → ℕ → Bool
      by x y tt = if x then matches030 tt address code write else if y then matches040 tt address (bit_of code 2) else false

      go : (x y i : Bool)
          → (by x y (if x then g.tt0 else if i then g.itt0 else g.dtt0) || by x y (if x then g.tt1 else if i then g.itt1 else g.dtt1))
          ≡ (if x then transparent030 g address code write else if y then transparent040 g address (bit_of code 2) i else false)
      go true y i = refl
      go false true true = refl
      go false true false = refl
      go false false i = refl

  disabled : (tt : ℕ) → bit_of tt 15 ≡ false → matches_by g.family tt address code write ≡ false
  disabled tt h = go (eqb g.family 30) (eqb g.family 40)
    where
      go : (x y : Bool) → (if x then matches030 tt address code write else if y then matches040 tt address (bit_of code 2) else false) ≡ false
      go true y = rw h
      go false true = rw h
      go false false = refl

  module _ {first : ℕ} (e : first ≡ first_by g instruction) {second : ℕ} (f : second ≡ second_by g instruction) where
    pub compared : {r : Bool} → r ≡ either_by g.family first second address code write → r ≡ transparent g address code instruction write
    compared er = er ∙ rw (e, f) by_family

    pub none_enabled : {x : Bool} → x ≡ bit_of first 15 → {y : Bool} → y ≡ bit_of second 15 → (x || y) ≡ false → false ≡ transparent g address code instruction write
    none_enabled {x} ex {y} ey h =
        let off = neither x y h in
        compared (rw (disabled first (sym ex ∙ off.0), disabled second (sym ey ∙ off.1)))
