-- What the code is given for a descriptor says which descriptor it is. Assumes nothing.
use Prim.Native.Nat.{ℕ}
use mathlib.Core.Path.{◌≡◌, refl, ap}
use mathlib.Core.Bool.{Bool, true, false}
use lib.Dec.{eqb, ltb}
use Rattle.std.specs.Prelude.{if◌then◌else◌, length, Ok, Err}
use Rattle.definition.specs.Walk030.{Descriptor, Whole, Lost}
use Rattle.definition.proofs.Asked030.{asked_for}
use Rattle.memory.specs.Descriptors.{kind_of, shown_read}
use Rattle.memory.specs.declared.descriptor.Descriptor.{Descriptor as Read}
use Rattle.memory.specs.declared.descriptor.Kind.TheVariants.{Invalid, Page, Table}
use Rattle.memory.specs.declared.descriptor.Lost.{Lost as Gone}

-- its type's number
abbrev pub type_of : Descriptor → ℕ
type_of (Whole kind field wp sup asked) = kind
type_of (Lost at asked) = 0

-- what the code was given is what was read
pub lost_is : (d : Descriptor) {l : Gone} → shown_read d ≡ Err l → d ≡ Lost l.at (asked_for d)
lost_is (Whole kind field wp sup x) e = cc
lost_is (Lost at a) {l} e = let same : record { at = at; asked = length a } ≡ l = cc in ap (λ (at : ℕ). Lost at a) (ap (λ (l : Gone). l.at) same)

pub whole_is : (d : Descriptor) {x : Read} → shown_read d ≡ Ok x → d ≡ Whole (type_of d) x.field x.wp x.sup (asked_for d)
whole_is (Whole kind field wp sup a) {x} e =
    let same : record { kind = kind_of kind; field = field; wp = wp; sup = sup; asked = length a } ≡ x = cc in
    rw (← same)
whole_is (Lost at a) e = cc

pub kind_is : (d : Descriptor) {x : Read} → shown_read d ≡ Ok x → x.kind ≡ kind_of (type_of d)
kind_is (Whole kind field wp sup a) {x} e =
    let same : record { kind = kind_of kind; field = field; wp = wp; sup = sup; asked = length a } ≡ x = cc in
    rw (← same)
kind_is (Lost at a) e = cc

-- what the type says of its number
pub page_is : (n : ℕ) → kind_of n ≡ Page → eqb n 1 ≡ true
page_is n = go (eqb n 1) (ltb n 2)
  where
    go : (a b : Bool) → (if a then Page else if b then Invalid else Table (eqb n 3)) ≡ Page → a ≡ true
    go true b e = refl
    go false true e = cc
    go false false e = cc

pub invalid_is : (n : ℕ) → kind_of n ≡ Invalid → (eqb n 1 ≡ false) × (ltb n 2 ≡ true)
invalid_is n = go (eqb n 1) (ltb n 2)
  where
    go : (a b : Bool) → (if a then Page else if b then Invalid else Table (eqb n 3)) ≡ Invalid → (a ≡ false) × (b ≡ true)
    go true b e = cc
    go false true e = (refl, refl)
    go false false e = cc

pub table_is : (n : ℕ) {long : Bool} → kind_of n ≡ Table long → (eqb n 1 ≡ false) × ((ltb n 2 ≡ false) × (eqb n 3 ≡ long))
table_is n {long} = go (eqb n 1) (ltb n 2)
  where
    go : (a b : Bool) → (if a then Page else if b then Invalid else Table (eqb n 3)) ≡ Table long → (a ≡ false) × ((b ≡ false) × (eqb n 3 ≡ long))
    go true b e = cc
    go false true e = cc
    go false false e = (refl, (refl, cc))
