-- An answer's numbers, by what the answer is; an override, by its number. Assumes nothing.
use Rattle.std.specs.Prelude.{Option, Some, None}
use Prim.Native.Nat.{ℕ, ◌/◌, ◌%◌}
use mathlib.Core.Path.{◌≡◌}
use mathlib.Core.List.{List, [], ◌∷◌}
use mathlib.Core.Bool.{Bool}
use lib.ListN.{get_or}
use Rattle.definition.specs.Words.{bit_of}
use Rattle.definition.specs.declared.Finding.{Finding}
use Rattle.definition.specs.declared.Finding.TheVariants as finding
use borrow.Author.Tests.{eq-eqb, ne_eqb}
use Rattle.definition.specs.Answers.{kind_number, cause_number}
use Rattle.definition.specs.Trace.{override_of}
use Rattle.definition.specs.declared.FaultKind.{FaultKind}
use Rattle.definition.specs.declared.FaultCause.{FaultCause}
use Rattle.definition.specs.declared.Translation.{Translation}
use Rattle.definition.specs.declared.Translation.TheVariants as translation
use Rattle.definition.specs.declared.Load.{Load}
use Rattle.definition.specs.declared.Load.TheVariants as load'
use Rattle.definition.specs.declared.Test.{Test}
use Rattle.definition.specs.declared.Test.TheVariants as test'
use Rattle.numbers.specs.declared.Held.{Held}
use Rattle.numbers.specs.declared.Walked.{Walked}
use Rattle.numbers.specs.Numbers.{held_of, walked_of, finding_of_parts, finding_numbers, registers_with, registers_of, access_with, access_of, translation_numbers, load_numbers, test_numbers}

module _ (code : ℕ) where
  pub none : code ≡ 255 → None ≡ override_of code
  none e = rw (eq-eqb code 255 e)

  pub some : (code ≡ 255 → ⊥) → Some code ≡ override_of code
  some h = rw (ne_eqb code 255 h)

module _ {out : List ℕ} {count : ℕ} where
  pub address : {t : Translation} {x : ℕ} → t ≡ translation.Address x → out ≡ 0 ∷ x ∷ 0 ∷ 0 ∷ count ∷ [] → out ≡ translation_numbers t count
  address e f = rw e f

  pub fault : {t : Translation} {kind : FaultKind} {cause : FaultCause} {x k c : ℕ} → t ≡ translation.Fault kind cause x → k ≡ kind_number kind → c ≡ cause_number cause
      → out ≡ 1 ∷ x ∷ k ∷ c ∷ count ∷ [] → out ≡ translation_numbers t count
  fault e a b f = rw (e, ← a, ← b) f

  pub refused : {t : Translation} {n : ℕ} → t ≡ translation.Refused n → out ≡ 2 ∷ n ∷ 0 ∷ 0 ∷ count ∷ [] → out ≡ translation_numbers t count
  refused e f = rw e f

  pub loaded : {l : Load} → l ≡ load'.Loaded → out ≡ 0 ∷ 0 ∷ 0 ∷ 0 ∷ count ∷ [] → out ≡ load_numbers l count
  loaded e f = rw e f

  pub load_refused : {l : Load} {n : ℕ} → l ≡ load'.Refused n → out ≡ 2 ∷ n ∷ 0 ∷ 0 ∷ count ∷ [] → out ≡ load_numbers l count
  load_refused e f = rw e f

  pub status : {t : Test} {mmusr x : ℕ} → t ≡ test'.Status mmusr x → out ≡ 0 ∷ mmusr ∷ x ∷ 0 ∷ count ∷ [] → out ≡ test_numbers t count
  status e f = rw e f

  pub test_refused : {t : Test} {n : ℕ} → t ≡ test'.Refused n → out ≡ 2 ∷ n ∷ 0 ∷ 0 ∷ count ∷ [] → out ≡ test_numbers t count
  test_refused e f = rw e f

-- ---- the host's numbers
pub accessed : (flags code address : ℕ) {w s i o r : Bool} {c : Option ℕ} → w ≡ bit_of flags 0 → s ≡ bit_of flags 1 → i ≡ bit_of flags 2 → o ≡ bit_of flags 3
    → r ≡ bit_of flags 4 → c ≡ override_of code
    → access_with address w s i o c r ≡ access_of flags code address
accessed flags code address w s i o r c = rw (w, s, i, o, r, c)

pub registered : (ns : List ℕ) {p e : Bool} → p ≡ bit_of (get_or ns 1 0) 0 → e ≡ bit_of (get_or ns 1 0) 1 → registers_with ns p e ≡ registers_of ns
registered ns p e = rw (p, e)

-- ---- what is said of one entry
pub held_at : {h : Option ℕ} {base : ℕ} → h ≡ Some base → record { what = 0; low = base % 4294967296; high = base / 4294967296 } ≡ held_of h
held_at e = rw e

pub held_none : {h : Option ℕ} → h ≡ None → record { what = 3; low = 0; high = 0 } ≡ held_of h
held_none e = rw e

pub walked_address : {t : Translation} {x : ℕ} → t ≡ translation.Address x → record { what = 0; number = x; kind = 0; cause = 0 } ≡ walked_of t
walked_address e = rw e

pub walked_fault : {t : Translation} {kind : FaultKind} {cause : FaultCause} {x k c : ℕ} → t ≡ translation.Fault kind cause x → k ≡ kind_number kind → c ≡ cause_number cause
    → record { what = 1; number = x; kind = k; cause = c } ≡ walked_of t
walked_fault e a b = rw (e, a, b)

pub walked_refused : {t : Translation} {n : ℕ} → t ≡ translation.Refused n → record { what = 2; number = n; kind = 0; cause = 0 } ≡ walked_of t
walked_refused e = rw e

pub says : {f : Finding} {x code : ℕ} {cached : Option ℕ} {tables : Translation} {h : Held} {t : Walked} → f ≡ finding.Says x code cached tables
    → h ≡ held_of cached → t ≡ walked_of tables → finding_of_parts x code h t ≡ finding_numbers f
says e a b = rw (e, a, b)

pub says_refused : {f : Finding} {n : ℕ} → f ≡ finding.Refused n → 2 ∷ n ∷ 0 ∷ 0 ∷ 0 ∷ 0 ∷ 0 ∷ 0 ∷ 0 ∷ 0 ∷ [] ≡ finding_numbers f
says_refused e = rw e
