-- What an entry is, from what was read of it. Assumes nothing.
use Prim.Native.Nat.{ℕ, ◌*◌, ◌/◌}
use mathlib.Core.Path.{◌≡◌, refl, sym, ap, ◌∙◌}
use mathlib.Core.Bool.{Bool, true, false}
use lib.Dec.{eqb, ltb}
use Rattle.std.specs.Prelude.{if◌then◌else◌, Result, Ok, Err}
use Rattle.definition.specs.Memory.{Memory}
use Rattle.definition.specs.Walk030.{Descriptor, Whole, Lost, read_of}
use Rattle.memory.specs.Descriptors.{kind_of, shown_read}
use Rattle.memory.specs.declared.descriptor.Descriptor.{Descriptor as Read}
use Rattle.memory.specs.declared.descriptor.Kind.{Kind}
use Rattle.memory.specs.declared.descriptor.Kind.TheVariants.{Invalid, Page, Table}
use Rattle.memory.specs.declared.descriptor.Lost.{Lost as Gone}
use Rattle.memory.proofs.Shown.{type_of, lost_is, whole_is, kind_is, page_is, invalid_is, table_is}
use Rattle.definition.proofs.Asked030.{asked_for}
use Rattle.list.specs.Looking.{opened, page_or, target_by}
use Rattle.definition.specs.List.{page_at, lost_at, seen_target, seen_by, seen_of}
use Rattle.definition.specs.declared.Node.{Node}
use Rattle.definition.specs.declared.Mapped.{Mapped}
use Rattle.definition.specs.declared.Seen.{Seen}
use Rattle.definition.specs.declared.Seen.TheVariants.{Nothing, One, Opens}

-- a target is what its descriptor says
target_is : (e : Node) (d : Descriptor) → target_by e (shown_read d) ≡ seen_target e d
target_is e (Lost at asked) = refl
target_is e (Whole kind field wp sup asked) = go (eqb kind 1) (ltb kind 2)
  where
    go : (a b : Bool) → page_or (if a then Page else if b then Invalid else Table (eqb kind 3)) (One (page_at e field wp sup)) ≡ (if a then One (page_at e field wp sup) else Nothing)
    go true b = refl
    go false true = refl
    go false false = refl

module _ (m : Memory) (last : Bool) (e : Node) {r : Result Read Gone} (read : r ≡ shown_read (read_of m e.at e.long)) where
  abbrev here : Descriptor
  here = read_of m e.at e.long

  pub lost : {l : Gone} → r ≡ Err l → {x : Mapped} → x ≡ lost_at e → One x ≡ seen_of m last e
  unfolding seen_of
  lost {l} h q = let is : here ≡ Lost l.at (asked_for here) = lost_is here (sym read ∙ h) in rw (is, q)

  module _ {d : Read} (h : r ≡ Ok d) where
    is : seen_of m last e ≡ seen_by m last e (Whole (type_of here) d.field d.wp d.sup (asked_for here))
    unfolding seen_of
    is = ap (seen_by m last e) (whole_is here (sym read ∙ h))

    type_is : {k : Kind} → d.kind ≡ k → kind_of (type_of here) ≡ k
    type_is t = sym (kind_is here (sym read ∙ h)) ∙ t

    pub nothing : d.kind ≡ Invalid → Nothing ≡ seen_of m last e
    nothing t = let k = invalid_is (type_of here) (type_is t) in rw (is, k.0, k.1)

    pub page : d.kind ≡ Page → {x : Mapped} → x ≡ page_at e d.field d.wp d.sup → One x ≡ seen_of m last e
    page t q = rw (is, page_is (type_of here) (type_is t), q)

    module _ {long : Bool} (t : d.kind ≡ Table long) where
      names : (eqb (type_of here) 1 ≡ false) × ((ltb (type_of here) 2 ≡ false) × (eqb (type_of here) 3 ≡ long))
      names = table_is (type_of here) (type_is t)

      pub target : last ≡ true → {at : ℕ} → at ≡ d.field / 4 * 4 → {r' : Result Read Gone} → r' ≡ shown_read (read_of m at long) → {x : Seen} → x ≡ target_by e r'
          → x ≡ seen_of m last e
      target l a q w = rw (is, names.0, names.1.0, names.1.1, l, ← a) (w ∙ ap (target_by e) q ∙ target_is e (read_of m _ long))

      pub table : last ≡ false → {x : Node} → x ≡ opened e long d.field d.wp d.sup → Opens x ≡ seen_of m last e
      table l q = rw (is, names.0, names.1.0, names.1.1, l, q)
