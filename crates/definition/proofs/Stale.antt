-- An entry that the audit names is wrong: where its own key finds it, a read or a write of its page gets another answer than the cacheless walk's, with the
-- PMMU on and no transparent match. Assumes nothing but what the statements say.
use Rattle.std.specs.Prelude.{Option, Some}
use Prim.Native.Nat.{ℕ, ◌%◌, ◌^◌, ◌<◌}
use mathlib.Core.Path.{◌≡◌, refl, ap, sym, ◌∙◌}
use mathlib.Core.List.{List}
use mathlib.Core.Bool.{Bool, true, false, not, ◌&&◌, ◌||◌, false≢true, true≢false}
use native.Mathlib.Omega.{arith}
use native.Mathlib.Nat.{mul-mod_left}
use borrow.Author.Tests.{lt-ltb, eqb-true, eqb-false, eq-eqb, not-true}
use lib.Dec.{eqb}
use lib.Pow.{shl-shr}
use lib.Bits.{or_zero_r}
use lib.ListN.{length, get_or}
use Rattle.definition.specs.Words.{bit_of}
use Rattle.definition.specs.Registers.{on, code_of, as_instruction, compared_code}
use Rattle.definition.specs.Memory.{Memory}
use Rattle.definition.specs.Transparent.{transparent}
use Rattle.definition.specs.Walk030.{Outcome, walk030, every_level, physical_of, shift_of}
use Rattle.definition.specs.Walk040.{Outcome040, walk040, page_bits, frame_of, physical040}
use Rattle.definition.specs.Cache030.{Entry, Cache030, no_entry, empty030, matching, hit_of}
use Rattle.definition.specs.Cache040.{Slot, no_slot, same_bool, forbids, slot_hit, hit040}
use Rattle.definition.specs.Refusal.{refusal_of}
use Rattle.definition.specs.Translate.{Caches, empty_caches, hit_address, on_end030, concluded030, search030, with030, translate030, on_end040, concluded040, joined, translate040, in_order, translate_checks, translate, cacheless}
use Rattle.definition.specs.Audit.{first_of_page, found_for030, is_access_code, is_end030, is_outcome030, stale030, found_for040, is_end040, stale040, audit_checks, audit_from, bare, plain_access, finding}
use Rattle.definition.specs.declared.Access.{Access}
use Rattle.definition.specs.declared.Audit.{Audit}
use Rattle.definition.specs.declared.Finding.{Finding}
use Rattle.definition.specs.declared.End.{End}
use Rattle.definition.specs.declared.End.TheVariants.{Page, Invalid, LevelStop, BusError, Config}
use Rattle.definition.specs.declared.End040.{End040}
use Rattle.definition.specs.declared.End040.TheVariants.{Resident, Absent, Lost}
use Rattle.definition.specs.declared.Registers.{Registers}
use Rattle.definition.specs.declared.Translation.{Translation}
use Rattle.definition.specs.declared.Translation.TheVariants as translation
use Rattle.definition.proofs.Choice.{if_both, and_left, and_right}
use Rattle.definition.proofs.Refusals.{none_four}
use Rattle.definition.proofs.Narrow.{narrow_outcome, narrow_040}
use Rattle.definition.proofs.Hits030 as hits030
use Rattle.definition.proofs.Hits040 as hits040
use Rattle.definition.proofs.Said.{Names, says_by, stale_at_030, stale_at_040, stale_shift}

-- a read or a write of this privilege and space gets another answer than its cacheless walk's, unless a transparent register answers it
pub record Wrong (g : Registers) (m : Memory) (c : Caches) (supervisor instruction : Bool) (address : ℕ) : Type 0 where
  pub write : Bool
  pub differs : transparent g address (code_of supervisor instruction) instruction write ≡ false
      → (translate g (plain_access supervisor instruction write address) m c).answer
      ≡ (cacheless g (plain_access supervisor instruction write address) m).answer → ⊥

-- an answer that is no address
abbrev NoAddress : Translation → Type 0
NoAddress (translation.Address x) = ⊥
NoAddress (translation.Fault kind cause address) = Unit {0}
NoAddress (translation.Refused n) = Unit {0}

apart : (x : ℕ) (t : Translation) → NoAddress t → Translation.Address x ≡ t → ⊥
apart x (translation.Address _) n e = elim n [ ]
apart x (translation.Fault kind cause address) n e = let z : ◌≡◌ {A = ℕ} 0 1 = cc in omega arith
apart x (translation.Refused k) n e = let z : ◌≡◌ {A = ℕ} 0 1 = cc in omega arith

-- what the audit is given is refused to no access without an override
same_refusal : (g : Registers) (m : Memory) (c : Caches) (a : Access) → translate_checks g a m c ≡ audit_checks g m c → refusal_of (audit_checks g m c) ≡ 0
    → refusal_of (translate_checks g a m empty_caches) ≡ 0
same_refusal g m c a e r = let f = none_four (audit_checks g m c) r in rw (← e, f) at r

-- an access with the PMMU on and no transparent match
module _ (g : Registers) (m : Memory) (a : Access) (on_is : on g ≡ true) (seen : transparent g a.address (compared_code a) (as_instruction a) a.write ≡ false) where
  by_030 : eqb g.family 30 ≡ true → (c : Caches) → refusal_of (translate_checks g a m c) ≡ 0 → (translate g a m c).answer ≡ (translate030 g a m c).answer
  unfolding translate in_order
  by_030 family c r = rw (eq-eqb (refusal_of (translate_checks g a m c)) 0 r, on_is, seen, family)

  by_040 : eqb g.family 30 ≡ false → (c : Caches) → refusal_of (translate_checks g a m c) ≡ 0 → (translate g a m c).answer ≡ (translate040 g a m c).answer
  unfolding translate in_order
  by_040 family c r = rw (eq-eqb (refusal_of (translate_checks g a m c)) 0 r, on_is, seen, family)

-- bare registers match nothing
opaque : (g : Registers) (address code : ℕ) (instruction write : Bool) → transparent (bare g) address code instruction write ≡ false
unfolding transparent
opaque g address code instruction write =
    if_both (λ (b : Bool). b ≡ false) (eqb g.family 30) _ _ refl
    (if_both (λ (b : Bool). b ≡ false) (eqb g.family 40) _ _ (if_both (λ (b : Bool). b ≡ false) instruction _ _ refl refl) refl)

-- ---- the 68030
-- the codes of an access come from supervisor and instruction
pub code_again : (code : ℕ) → is_access_code code ≡ true → code_of (bit_of code 2) (eqb (code % 4) 2) ≡ code
code_again code t = go (eqb code 1) (eqb code 2) (eqb code 5) (eqb code 6) refl refl refl refl t
  where
    go : (a b d f : Bool) → eqb code 1 ≡ a → eqb code 2 ≡ b → eqb code 5 ≡ d → eqb code 6 ≡ f → (a || b || d || f) ≡ true
        → code_of (bit_of code 2) (eqb (code % 4) 2) ≡ code
    go true b d f i j k l t = rw (eqb-true code 1 i)
    go false true d f i j k l t = rw (eqb-true code 2 j)
    go false false true f i j k l t = rw (eqb-true code 5 k)
    go false false false true i j k l t = rw (eqb-true code 6 l)
    go false false false false i j k l t = absurd (false≢true t)

-- a read or a write that the entry permits, and that the walk does not answer by the entry's base
module _ (tc : ℕ) (e : Entry) (address : ℕ) (wp sup : Bool) (asked : List ℕ) where
  record Differs030 (end : End) : Type 0 where
    write : Bool
    may : (write && e.wp) ≡ false
    differs : Translation.Address e.base ≡ (on_end030 tc empty030 e.code address write wp sup asked end).answer → ⊥

  page_differs : (field consumed : ℕ) (s d : Bool) → (sup && not (bit_of e.code 2)) ≡ s → eqb (physical_of field consumed address) e.base ≡ d
      → (w b : Bool) → e.wp ≡ w → wp ≡ b → (not s && (d && (w || not b))) ≡ false → Differs030 (Page field consumed)
  page_differs field consumed true d i j w b k l f = record { write = false; may = refl; differs = rw i (apart _ _ tt) }
  page_differs field consumed false false i j w b k l f =
      record {
        write = false;
        may = refl;
        differs = rw i (λ h. let z : physical_of field consumed address ≡ e.base = cc in eqb-false (physical_of field consumed address) e.base j z);
      }
  page_differs field consumed false true i j true b k l f = absurd (true≢false f)
  page_differs field consumed false true i j false false k l f = absurd (true≢false f)
  page_differs field consumed false true i j false true k l f = record { write = true; may = k; differs = rw (i, l) (apart _ _ tt) }

  end_differs : (end : End) → is_end030 e address wp sup end ≡ false → Differs030 end
  end_differs (Page field consumed) f = page_differs field consumed _ _ refl refl _ _ refl refl f
  end_differs (Invalid indirect) f = record { write = false; may = refl; differs = apart _ _ tt }
  end_differs (BusError at) f = record { write = false; may = refl; differs = apart _ _ tt }
  end_differs LevelStop f = record { write = false; may = refl; differs = apart _ _ tt }
  end_differs Config f = record { write = false; may = refl; differs = apart _ _ tt }

-- what a stale entry is
pub record Stale030 (g : Registers) (m : Memory) (s : ℕ) (e : Entry) : Type 0 where
  pub valid : e.valid ≡ true
  pub met : is_access_code e.code ≡ true
  pub apart : is_outcome030 e (first_of_page e.page s) (found_for030 g m s e) ≡ false

pub stale_is_030 : (g : Registers) (m : Memory) (s : ℕ) (e : Entry) → stale030 g m s e ≡ true → Stale030 g m s e
unfolding stale030
stale_is_030 g m s e t =
    let key = and_left (e.valid && is_access_code e.code) _ t in
    record {
      valid = and_left e.valid _ key;
      met = and_right e.valid _ key;
      apart = not-true _ (and_right (e.valid && is_access_code e.code) _ t);
    }

-- what an access of a code gets from the caches, and from the tables
module _ (g : Registers) (m : Memory) (c : Caches) (accepted : refusal_of (audit_checks g m c) ≡ 0) (on_is : on g ≡ true) (family : eqb g.family 30 ≡ true)
    (s : ℕ) (sh : shift_of g.tc ≡ Some s) (code : ℕ) (is : is_access_code code ≡ true) (write : Bool) (address : ℕ)
    (seen : transparent g address (code_of (bit_of code 2) (eqb (code % 4) 2)) (eqb (code % 4) 2) write ≡ false) where
  abbrev its_access : Access
  its_access = plain_access (bit_of code 2) (eqb (code % 4) 2) write address

  with_caches : (d : Caches) → refusal_of (translate_checks g its_access m d) ≡ 0
      → (translate g its_access m d).answer ≡ (with030 g m d.c030 false code address write (Some s)).answer
  unfolding translate030
  with_caches d r =
      by_030 g m its_access on_is seen family d r
      ∙ ap (λ (n : ℕ). (with030 g m d.c030 false n address write (shift_of g.tc)).answer) (code_again code is)
      ∙ ap (λ (x : Option ℕ). (with030 g m d.c030 false code address write x).answer) sh

  from_caches : (translate g its_access m c).answer ≡ (with030 g m c.c030 false code address write (Some s)).answer
  from_caches = with_caches c accepted

  from_tables : (cacheless g its_access m).answer ≡ (concluded030 g.tc empty030 code address write (walk030 m g address code every_level)).answer
  unfolding search030
  from_tables = with_caches empty_caches (same_refusal g m c its_access refl accepted) ∙ hits030.empty_answer g m code address write false (Some s)

hit_first : (base page s : ℕ) → base < 2 ^ 32 → hit_address base (first_of_page page s) s ≡ base
hit_first base page s l = rw (mul-mod_left page (2 ^ s)) (omega arith)

-- where the entry's own key finds it, the entry answers what it permits
entry_answers : (g : Registers) (m : Memory) (c : Cache030) (i : ℕ) (e : Entry) (write : Bool) → get_or c.entries i no_entry ≡ e → i < length c.entries
    → matching c e.code e.page ≡ i → (write && e.wp) ≡ false → e.base < 2 ^ 32
    → (with030 g m c false e.code (first_of_page e.page c.shift) write (Some c.shift)).answer ≡ Translation.Address e.base
unfolding hit_of
entry_answers g m c i e write is l k f low =
    rw (shl-shr e.page c.shift, k, is, eq-eqb c.shift c.shift refl, lt-ltb i (length c.entries) l, f)
    (ap (λ (x : ℕ). Translation.Address x) (hit_first e.base e.page c.shift low))

abbrev pub entry_at : Caches → ℕ → Entry
entry_at c i = get_or c.c030.entries i no_entry

-- what is said of entry i has an address that the cache gives a read or a write, and that the tables do not
pub record Shown (g : Registers) (m : Memory) (c : Caches) (i address code base : ℕ) : Type 0 where
  pub write : Bool
  pub tables : Translation
  pub is : finding g m c i write ≡ Finding.Says address code (Some base) tables
  pub differs : Translation.Address base ≡ tables → ⊥

module _ (g : Registers) (m : Memory) (c : Caches) (from i : ℕ) (h : audit_from g m c from ≡ Audit.Stale030 i) where
  abbrev its_page : ℕ
  its_page = first_of_page (entry_at c i).page c.c030.shift

  its_family : eqb g.family 30 ≡ true
  its_family = (says_by g m c from (Audit.Stale030 i) h).0

  its_names : Names g m c from i
  its_names = (says_by g m c from (Audit.Stale030 i) h).1

  its_shift : shift_of g.tc ≡ Some c.c030.shift
  its_shift = stale_shift g m c i its_family its_names.stale

  pub named_030 : Stale030 g m c.c030.shift (entry_at c i)
  named_030 = stale_is_030 g m c.c030.shift (entry_at c i) (sym (stale_at_030 g m c i its_family its_shift) ∙ its_names.stale)

  its_size : i < length c.c030.entries
  its_size = let l = its_names.within in rw its_family at l

  differs_at : (address : ℕ) (o : Outcome) → is_outcome030 (entry_at c i) address o ≡ false
      → Differs030 g.tc (entry_at c i) address o.found.wp o.found.sup o.found.asked o.end
  differs_at address o f = end_differs g.tc (entry_at c i) address _ _ _ o.end f

  -- the law: if the audit names an entry that its own key finds, then with the PMMU on a read or a write of its page's first byte gets another answer than
  -- the cacheless walk's, unless a transparent register answers it
  pub stale_is_wrong : matching c.c030 (entry_at c i).code (entry_at c i).page ≡ i → (entry_at c i).base < 2 ^ 32 → on g ≡ true
      → Wrong g m c (bit_of (entry_at c i).code 2) (eqb ((entry_at c i).code % 4) 2) its_page
  stale_is_wrong key low on_is =
      let d = differs_at its_page (found_for030 g m c.c030.shift (entry_at c i)) named_030.apart in
      record {
        write = d.write;
        differs = λ seen same.
            d.differs
            (sym (entry_answers g m c.c030 i (entry_at c i) d.write refl its_size key d.may low)
            ∙ sym (from_caches g m c its_names.accepted on_is its_family c.c030.shift its_shift (entry_at c i).code named_030.met d.write its_page seen)
            ∙ same
            ∙ from_tables g m c its_names.accepted on_is its_family c.c030.shift its_shift (entry_at c i).code named_030.met d.write its_page seen);
      }

  -- and what is said of it shows the difference, in 32 bits
  pub stale_is_shown : Shown g m c i (its_page % 2 ^ 32) (entry_at c i).code (entry_at c i).base
  unfolding finding
  stale_is_shown =
      let d = differs_at (its_page % 2 ^ 32) (walk030 m g (its_page % 2 ^ 32) (entry_at c i).code every_level)
      (narrow_outcome its_page (entry_at c i) m g (entry_at c i).code every_level ∙ named_030.apart) in
      record {
        write = d.write;
        tables = (cacheless (bare g) (plain_access (bit_of (entry_at c i).code 2) (eqb ((entry_at c i).code % 4) 2) d.write (its_page % 2 ^ 32)) m).answer;
        is = rw (eq-eqb (refusal_of (audit_checks g m c)) 0 its_names.accepted, its_family, named_030.valid, d.may);
        differs = λ same.
            d.differs
            (same
            ∙ from_tables (bare g) m c its_names.accepted refl its_family c.c030.shift its_shift (entry_at c i).code named_030.met d.write
            (its_page % 2 ^ 32) (opaque g (its_page % 2 ^ 32) _ (eqb ((entry_at c i).code % 4) 2) d.write));
      }

-- ---- the 68040
abbrev pub slot_in : Caches → ℕ → Slot
slot_in c i = get_or c.c040.slots i no_slot

-- a slot that permits what its key may do, and whose page's base is the tables' where the walk finds one
module _ (g : Registers) (s : Slot) (instruction : Bool) (address : ℕ) (asked : List ℕ) (own : (not s.supervisor && s.sup) ≡ false) where
  -- a read or a write that the slot permits, and that the walk does not answer by the slot's base
  record Differs040 (end : End040) : Type 0 where
    write : Bool
    may : forbids s.supervisor write s ≡ false
    differs : Translation.Address s.base ≡ (on_end040 g (plain_access s.supervisor instruction write address) empty_caches asked end).answer → ⊥

  may_write : s.wp ≡ false → forbids s.supervisor true s ≡ false
  may_write e = rw e own

  page_differs_040 : (field : ℕ) (wp sup : Bool) (d u : Bool) → physical040 g.tc field address ≡ frame_of g.tc field
      → eqb (frame_of g.tc field) s.base ≡ d → (not s.supervisor && sup) ≡ u → (w : Bool) → s.wp ≡ w
      → (d && ((w || not wp) && not u)) ≡ false → Differs040 (Resident field wp sup)
  page_differs_040 field wp sup d true p i j w k f = record { write = false; may = own; differs = rw j (apart _ _ tt) }
  page_differs_040 field wp sup false false p i j w k f =
      record {
        write = false;
        may = own;
        differs = rw (j, p) (λ h. let z : frame_of g.tc field ≡ s.base = cc in eqb-false (frame_of g.tc field) s.base i z);
      }
  page_differs_040 field wp sup true false p i j true k f = absurd (true≢false f)
  page_differs_040 field true sup true false p i j false k f = record { write = true; may = may_write k; differs = apart _ _ tt }
  page_differs_040 field false sup true false p i j false k f = absurd (true≢false f)

  user_only : (a b x : Bool) → (not a && b) ≡ false → (a || b || not x) ≡ not (not a && x)
  user_only true b x e = refl
  user_only false true x e = absurd (true≢false e)
  user_only false false x e = refl

  end_differs_040 : (end : End040) → ((field : ℕ) (wp sup : Bool) → end ≡ Resident field wp sup → physical040 g.tc field address ≡ frame_of g.tc field)
      → is_end040 g.tc s end ≡ false → Differs040 end
  end_differs_040 (Resident field wp sup) p f =
      page_differs_040 field wp sup _ _ (p field wp sup refl) refl refl _ refl (rw (user_only s.supervisor s.sup sup own) at f)
  end_differs_040 (Absent missing) p f = record { write = false; may = own; differs = apart _ _ tt }
  end_differs_040 (Lost at) p f = record { write = false; may = own; differs = apart _ _ tt }

-- a base in 32 bits, at an address whose low bits are 0
physical_first : (tc field address : ℕ) → address % 2 ^ page_bits tc ≡ 0 → frame_of tc field < 2 ^ 32 → physical040 tc field address ≡ frame_of tc field
physical_first tc field address z l = rw z (omega arith)

joined_first : (tc base frame : ℕ) → base < 2 ^ 32 → joined tc base (first_of_page frame (page_bits tc)) ≡ base
joined_first tc base frame l = rw (mul-mod_left frame (2 ^ page_bits tc), or_zero_r base) (omega arith)

same_self : (b : Bool) → same_bool b b ≡ true
same_self true = refl
same_self false = refl

slot_hits : (s : Slot) (write : Bool) → s.valid ≡ true → forbids s.supervisor write s ≡ false → slot_hit s.frame s.supervisor write s ≡ Some s.base
slot_hits s write v f = rw (f, v, eq-eqb s.frame s.frame refl, same_self s.supervisor)

-- a slot that stands in its own place answers what it permits
slot_answers : (g : Registers) (m : Memory) (c : Caches) (i : ℕ) (s : Slot) (instruction write : Bool) → slot_in c i ≡ s → s.frame % 64 ≡ i
    → s.valid ≡ true → forbids s.supervisor write s ≡ false → s.base < 2 ^ 32
    → (translate040 g (plain_access s.supervisor instruction write (first_of_page s.frame (page_bits g.tc))) m c).answer ≡ Translation.Address s.base
unfolding translate040 hit040
slot_answers g m c i s instruction write is place v f low =
    rw (shl-shr s.frame (page_bits g.tc), place, is, slot_hits s write v f)
    (ap (λ (x : ℕ). Translation.Address x) (joined_first g.tc s.base s.frame low))

-- the first address of a page, in 32 bits, has no low bits
page_low : (tc frame : ℕ) → first_of_page frame (page_bits tc) % 2 ^ 32 % 2 ^ page_bits tc ≡ 0
page_low tc frame = if_both (λ (n : ℕ). first_of_page frame n % 2 ^ 32 % 2 ^ n ≡ 0) (bit_of tc 14) 13 12 (omega arith) (omega arith)

-- the walk does not read the other registers
bare_walk : (g : Registers) (m : Memory) (address : ℕ) (supervisor : Bool) → walk040 m (bare g) address supervisor ≡ walk040 m g address supervisor
unfolding walk040
bare_walk g m address supervisor = refl

-- an access of data, by its code
abbrev by_code : ℕ → Bool → ℕ → Access
by_code code write address = plain_access (bit_of code 2) (eqb (code % 4) 2) write address

data_access : (supervisor write : Bool) (address : ℕ) → by_code (code_of supervisor false) write address ≡ plain_access supervisor false write address
data_access true write address = refl
data_access false write address = refl

-- what a stale slot is
pub record Stale040 (g : Registers) (m : Memory) (s : Slot) : Type 0 where
  pub valid : s.valid ≡ true
  pub apart : is_end040 g.tc s (found_for040 g m s).end ≡ false

pub stale_is_040 : (g : Registers) (m : Memory) (s : Slot) → stale040 g m s ≡ true → Stale040 g m s
unfolding stale040
stale_is_040 g m s t = record { valid = and_left s.valid _ t; apart = not-true _ (and_right s.valid _ t) }

-- a page's base that the walk of the slot's key finds is of 32 bits
abbrev pub FitsFor : Registers → Memory → Slot → Type 0
FitsFor g m s = (field : ℕ) (wp sup : Bool) → (found_for040 g m s).end ≡ Resident field wp sup → frame_of g.tc field < 2 ^ 32

module _ (g : Registers) (m : Memory) (c : Caches) (from i : ℕ) (h : audit_from g m c from ≡ Audit.Stale040 i) where
  abbrev slot_page : ℕ
  slot_page = first_of_page (slot_in c i).frame (page_bits g.tc)

  slot_family : eqb g.family 30 ≡ false
  slot_family = (says_by g m c from (Audit.Stale040 i) h).0

  slot_names : Names g m c from i
  slot_names = (says_by g m c from (Audit.Stale040 i) h).1

  pub named_040 : Stale040 g m (slot_in c i)
  named_040 = stale_is_040 g m (slot_in c i) (sym (stale_at_040 g m c i slot_family) ∙ slot_names.stale)

  module _ (own : (not (slot_in c i).supervisor && (slot_in c i).sup) ≡ false) (fits : FitsFor g m (slot_in c i)) where
    -- by any registers with this TC
    slot_differs : (r : Registers) → r.tc ≡ g.tc → (instruction : Bool) (address : ℕ) → address % 2 ^ page_bits g.tc ≡ 0
        → Differs040 r (slot_in c i) instruction address (found_for040 g m (slot_in c i)).asked own (found_for040 g m (slot_in c i)).end
    slot_differs r tc instruction address z =
        end_differs_040 r (slot_in c i) instruction address (found_for040 g m (slot_in c i)).asked own (found_for040 g m (slot_in c i)).end
        (λ field wp sup e. rw tc (physical_first g.tc field address z (fits field wp sup e))) (rw tc named_040.apart)

    -- the law: if the audit names a slot that stands in its own place, whose base is of 32 bits, then with the PMMU on a read or a write of its page's first
    -- byte, of data or of instructions, gets another answer than the cacheless walk's, unless a transparent register answers it
    pub stale_is_wrong_040 : (instruction : Bool) → (slot_in c i).frame % 64 ≡ i → (slot_in c i).base < 2 ^ 32 → on g ≡ true
        → Wrong g m c (slot_in c i).supervisor instruction slot_page
    stale_is_wrong_040 instruction place low on_is =
        let d = slot_differs g refl instruction slot_page (mul-mod_left (slot_in c i).frame (2 ^ page_bits g.tc)) in
        let a = plain_access (slot_in c i).supervisor instruction d.write slot_page in
        record {
          write = d.write;
          differs = λ seen same.
              d.differs
              (sym (slot_answers g m c i (slot_in c i) instruction d.write refl place named_040.valid d.may low)
              ∙ sym (by_040 g m a on_is seen slot_family c slot_names.accepted)
              ∙ same
              ∙ by_040 g m a on_is seen slot_family empty_caches (same_refusal g m c a refl slot_names.accepted)
              ∙ hits040.empty_answer g m a);
        }

    -- and what is said of it shows the difference, in 32 bits
    pub stale_is_shown_040 : Shown g m c i (slot_page % 2 ^ 32) (code_of (slot_in c i).supervisor false) (slot_in c i).base
    unfolding finding
    stale_is_shown_040 =
        let low = slot_page % 2 ^ 32 in
        let d = slot_differs (bare g) refl false low (page_low g.tc (slot_in c i).frame) in
        let a = plain_access (slot_in c i).supervisor false d.write low in
        record {
          write = d.write;
          tables = (cacheless (bare g) (by_code (code_of (slot_in c i).supervisor false) d.write low) m).answer;
          is = rw (eq-eqb (refusal_of (audit_checks g m c)) 0 slot_names.accepted, slot_family, slot_hits (slot_in c i) d.write named_040.valid d.may);
          differs = λ same.
              d.differs
              (same
              ∙ ap (λ (b : Access). (cacheless (bare g) b m).answer) (data_access (slot_in c i).supervisor d.write low)
              ∙ by_040 (bare g) m a refl (opaque g low _ false d.write) slot_family empty_caches (same_refusal g m c a refl slot_names.accepted)
              ∙ hits040.empty_answer (bare g) m a
              ∙ ap (λ (o : Outcome040). (concluded040 (bare g) a empty_caches o).answer)
              (bare_walk g m low (slot_in c i).supervisor ∙ narrow_040 slot_page m g (slot_in c i).supervisor));
        }
