-- What the audit's covered functions return, over plain values. Assumes nothing.
use Rattle.std.specs.Prelude.{Option, Some, None}
use Prim.Native.Nat.{ℕ, zero, suc, ◌+◌, ◌-◌, ◌*◌, ◌/◌, ◌%◌, ◌^◌, ◌≤◌, ◌<◌}
use mathlib.Core.Path.{◌≡◌, refl, ap, sym, ◌∙◌}
use mathlib.Core.List.{List, [], ◌∷◌}
use mathlib.Core.Bool.{Bool, true, false, not, ◌&&◌, ◌||◌}
use native.Mathlib.Omega.{arith}
use borrow.Author.Tests.{eq-eqb, ne_eqb, lt-ltb, le-ltb}
use native.Mathlib.Nat.{min-le_left, mul_assoc, mul-mod_left}
use lib.Pow.{pow-add}
use lib.Dec.{eqb}
use lib.ListN.{length, get_or, take, drop, length-take}
use Rattle.definition.specs.Walk030.{shift_of, physical_of}
use Rattle.definition.specs.Walk040.{page_bits, frame_of}
use Rattle.definition.specs.Cache030.{Cache030}
use Rattle.definition.specs.Refusal.{no_family, bad_cache, refusal_of}
use Rattle.definition.specs.Audit.{is_access_code, is_end030, is_end040}
use Rattle.definition.specs.declared.Registers.{Registers}
use Rattle.definition.specs.declared.End.{End}
use Rattle.definition.specs.declared.End.TheVariants.{Page}
use Rattle.definition.specs.declared.End040.{End040}
use Rattle.definition.specs.declared.End040.TheVariants.{Resident}
use Rattle.definition.specs.declared.Audit.{Audit}
use Rattle.walk030.specs.declared.Walked.{Walked}
use Rattle.walk040.specs.declared.Walked040.{Walked040}
use Rattle.cache.specs.Packed.{odd, part}
use Rattle.cache.specs.Atc030.{entry_of, tags_of, pages_of, shift_in, cache_of}
use Rattle.cache.specs.Atc040.{slot_of, keys_of, bases_of}
use Rattle.cache.proofs.Parts.{part_get}
use Rattle.checks.specs.Given.{checks_of}
use Rattle.audit.specs.declared.Auditing.{Auditing}
use Rattle.audit.specs.declared.Cached.{Cached}
use Rattle.audit.specs.declared.walking.Way.{Way}
use Rattle.audit.specs.declared.walking.Walks.{Walks}
use Rattle.audit.specs.declared.walking.Walks.TheVariants as walks
use Rattle.audit.specs.Machine.{going_to, done_by, going_from, at_shift, audit_refusal, begin_family, audit_begin, cached_at, way030, way040, way_for, wrapped_of, address_for, stale_by030, stale_by040, turned_of, audit_took}

pub past_end : (l : List ℕ) (i : ℕ) → length l ≤ i → 0 ≡ get_or l i 0
past_end [] i h = refl
past_end (x ∷ l) zero h = absurd (omega arith)
past_end (x ∷ l) (suc i) h = past_end l i (omega arith)

module _ (l : List ℕ) (start size i : ℕ) where
  pub in_part : i < size → {r : ℕ} → r ≡ get_or l (start + i) 0 → r ≡ get_or (part start size l) i 0
  in_part h e = e ∙ part_get start size l i (start + i) refl h

  pub past_part : size ≤ i → 0 ≡ get_or (part start size l) i 0
  unfolding part
  past_part h = past_end (take size (drop start l)) i (omega (arith, length-take size (drop start l), min-le_left size (length (drop start l))))

-- ---- where it begins
module _ (from size : ℕ) {r : Auditing} where
  pub from_within : from < size → r ≡ going_to from → r ≡ going_from from size
  from_within h e = rw (lt-ltb from size h) e

  pub from_past : size ≤ from → r ≡ done_by Audit.Clean → r ≡ going_from from size
  from_past h e = rw (le-ltb from size h) e

module _ (shift tc : ℕ) {r : Option ℕ} (is : r ≡ shift_of tc) where
  pub no_shift : r ≡ None → false ≡ at_shift shift (shift_of tc)
  no_shift e = rw (sym is ∙ e)

  pub some_shift : {s : ℕ} → r ≡ Some s → eqb shift s ≡ at_shift shift (shift_of tc)
  some_shift e = rw (sym is ∙ e)

module _ (g : Registers) (two three : Bool) (c : Cache030) {one four : Bool} {n : ℕ} where
  pub refusal_is : one ≡ no_family g.family → four ≡ bad_cache c → n ≡ refusal_of (checks_of one false false two three four) → n ≡ audit_refusal g two three c
  unfolding audit_refusal
  refusal_is e f h = h ∙ rw (e, f)

module _ (g : Registers) (two three : Bool) (l : List ℕ) (from : ℕ) {n : ℕ} (is-n : n ≡ audit_refusal g two three (cache_of l)) where
  pub begin_refused : {r : Auditing} → (n ≡ 0 → ⊥) → r ≡ done_by (Audit.Refused n) → r ≡ audit_begin g two three (cache_of l) from
  unfolding audit_begin
  begin_refused h e = rw (← is-n, ne_eqb n 0 h) e

  module _ (h : n ≡ 0) where
    begin_accepted : {r : Auditing} → r ≡ begin_family g (cache_of l) from → r ≡ audit_begin g two three (cache_of l) from
    unfolding audit_begin
    begin_accepted e = rw (← is-n, eq-eqb n 0 h) e

    module _ (f : g.family ≡ 30) {shift : ℕ} (is-shift : shift ≡ shift_in l) {b : Bool} (is_b : b ≡ at_shift shift (shift_of g.tc)) where
      shifted : at_shift (cache_of l).shift (shift_of g.tc) ≡ b
      unfolding cache_of
      shifted = ap (λ (s : ℕ). at_shift s (shift_of g.tc)) (sym is-shift) ∙ sym is_b

      pub begin_030 : {r : Auditing} → b ≡ true → r ≡ going_from from 22 → r ≡ audit_begin g two three (cache_of l) from
      begin_030 t e = begin_accepted (rw (eq-eqb g.family 30 f, shifted ∙ t) e)

      pub begin_other : {r : Auditing} → b ≡ false → r ≡ done_by Audit.Clean → r ≡ audit_begin g two three (cache_of l) from
      begin_other t e = begin_accepted (rw (eq-eqb g.family 30 f, shifted ∙ t) e)

    pub begin_040 : {r : Auditing} → (g.family ≡ 30 → ⊥) → r ≡ going_from from 64 → r ≡ audit_begin g two three (cache_of l) from
    begin_040 f e = begin_accepted (rw (ne_eqb g.family 30 f) e)

-- ---- entry i
module _ (t : ℕ) {met : Bool} (is : met ≡ is_access_code (t / 2 % 8)) where
  pub way_met : (odd t && met) ≡ true → Way.By030 (t / 2 % 8) ≡ way030 t
  way_met h = let k : (odd t && is_access_code (t / 2 % 8)) ≡ true = ap (λ (b : Bool). odd t && b) (sym is) ∙ h in rw k

  pub way_idle : (odd t && met) ≡ false → Way.Idle ≡ way030 t
  way_idle h = let k : (odd t && is_access_code (t / 2 % 8)) ≡ false = ap (λ (b : Bool). odd t && b) (sym is) ∙ h in rw k

pub slot_way : (k : ℕ) → k % 2 ≡ 1 → Way.By040 (odd (k / 2)) ≡ way040 k
slot_way k h = rw (eq-eqb (k % 2) 1 h)

pub slot_idle : (k : ℕ) → (k % 2 ≡ 1 → ⊥) → Way.Idle ≡ way040 k
slot_idle k h = rw (ne_eqb (k % 2) 1 h)

module _ (g : Registers) (x : Cached) {r : Way} where
  pub way_for_030 : g.family ≡ 30 → r ≡ way030 x.key → r ≡ way_for g x
  unfolding way_for
  way_for_030 f h = rw (eq-eqb g.family 30 f) h

  pub way_for_040 : (g.family ≡ 30 → ⊥) → r ≡ way040 x.key → r ≡ way_for g x
  unfolding way_for
  way_for_040 f h = rw (ne_eqb g.family 30 f) h

pub none_left : (page shift : ℕ) → 32 ≤ shift → 0 ≡ wrapped_of page shift
none_left page shift h =
    let d : shift ≡ shift - 32 + 32 = omega arith in
    let e : page * 2 ^ shift ≡ page * 2 ^ (shift - 32) * 2 ^ 32 =
    ap (λ (n : ℕ). page * 2 ^ n) d ∙ ap (λ (n : ℕ). page * n) (pow-add 2 (shift - 32) 32) ∙ sym (mul_assoc page (2 ^ (shift - 32)) (2 ^ 32)) in
    sym (ap (λ (n : ℕ). n % 2 ^ 32) e ∙ mul-mod_left (page * 2 ^ (shift - 32)) (2 ^ 32))

module _ (g : Registers) (x : Cached) {r : ℕ} where
  pub address_for_030 : g.family ≡ 30 → r ≡ wrapped_of (x.key / 16) x.shift → r ≡ address_for g x
  unfolding address_for
  address_for_030 f h = rw (eq-eqb g.family 30 f) h

  pub address_for_040 : (g.family ≡ 30 → ⊥) → r ≡ wrapped_of (x.key / 4) x.shift → r ≡ address_for g x
  unfolding address_for
  address_for_040 f h = rw (ne_eqb g.family 30 f) h

module _ (g : Registers) (c3 c4 : List ℕ) (i : ℕ) {key page shift : ℕ} where
  pub cached_030 : g.family ≡ 30 → key ≡ get_or (tags_of c3) i 0 → page ≡ get_or (pages_of c3) i 0 → shift ≡ shift_in c3
      → record { key = key; page = page; shift = shift } ≡ cached_at g c3 c4 i
  unfolding cached_at
  cached_030 f e d h = rw (eq-eqb g.family 30 f, e, d, h)

  pub cached_040 : (g.family ≡ 30 → ⊥) → key ≡ get_or (keys_of c4) i 0 → page ≡ get_or (bases_of c4) i 0 → shift ≡ page_bits g.tc
      → record { key = key; page = page; shift = shift } ≡ cached_at g c3 c4 i
  unfolding cached_at
  cached_040 f e d h = rw (ne_eqb g.family 30 f, e, d, h)

-- ---- what its walk says
pub end_030 : (t p address : ℕ) (wp sup : Bool) {end : End} {field consumed to : ℕ} → end ≡ Page field consumed → to ≡ physical_of field consumed address
    → (not (sup && not (eqb (t / 2 % 8 / 4 % 2) 1)) && (eqb to (p / 2) && (odd p || not wp))) ≡ is_end030 (entry_of t p 0) address wp sup end
end_030 t p address wp sup e f = rw (e, f)

pub end_040 : (tc k b : ℕ) {end : End040} {field to : ℕ} {wp sup : Bool} → end ≡ Resident field wp sup → to ≡ frame_of tc field
    → (eqb to (b / 4) && ((odd (b / 2) || not wp) && (odd (k / 2) || odd b || not sup))) ≡ is_end040 tc (slot_of k b) end
end_040 tc k b e f = rw (e, f)

pub stale_030 : (t p address : ℕ) {w : Walks} {x : Walked} {r : Bool} → w ≡ walks.By030 x → r ≡ is_end030 (entry_of t p 0) address x.wp x.sup x.end
    → not r ≡ stale_by030 t p address w
stale_030 t p address e f = rw (e, f)

pub stale_040 : (tc k b : ℕ) {w : Walks} {x : Walked040} {r : Bool} → w ≡ walks.By040 x → r ≡ is_end040 tc (slot_of k b) x.end
    → not r ≡ stale_by040 tc k b w
stale_040 tc k b e f = rw (e, f)

module _ {stale : Bool} (i last : ℕ) (named : Audit) {r : Auditing} where
  pub turned_stale : stale ≡ true → r ≡ done_by named → r ≡ turned_of stale i last named
  turned_stale h e = rw h e

  pub turned_next : stale ≡ false → i < last → r ≡ going_to (i + 1) → r ≡ turned_of stale i last named
  turned_next h l e = rw (h, lt-ltb i last l) e

  pub turned_last : stale ≡ false → last ≤ i → r ≡ done_by Audit.Clean → r ≡ turned_of stale i last named
  turned_last h l e = rw (h, le-ltb i last l) e

module _ (g : Registers) (i : ℕ) (x : Cached) (address : ℕ) (w : Walks) {r : Auditing} {stale : Bool} where
  pub took_030 : g.family ≡ 30 → stale ≡ stale_by030 x.key x.page address w → r ≡ turned_of stale i 21 (Audit.Stale030 i) → r ≡ audit_took g i x address w
  unfolding audit_took
  took_030 f s h = rw (eq-eqb g.family 30 f) (h ∙ rw s)

  pub took_040 : (g.family ≡ 30 → ⊥) → stale ≡ stale_by040 g.tc x.key x.page w → r ≡ turned_of stale i 63 (Audit.Stale040 i) → r ≡ audit_took g i x address w
  unfolding audit_took
  took_040 f s h = rw (ne_eqb g.family 30 f) (h ∙ rw s)
