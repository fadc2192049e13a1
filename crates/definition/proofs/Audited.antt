-- A snapshot whose audit says Clean: every access gets the cacheless walk's answer, the probe's address is that answer, and so it stays over every run
-- from there, as from the empty caches. Assumes nothing but what the statements say.
use Prim.Native.Nat.{ℕ, ◌/◌, ◌^◌, zero-le}
use mathlib.Core.Path.{◌≡◌, refl, ap, sym, subst, ◌∙◌}
use mathlib.Core.Logic.{◌⊎◌, inl, inr, ⊎_elim}
use mathlib.Core.List.{List, [], ◌∷◌, ◌++◌}
use mathlib.Core.Bool.{Bool, true, false, not, ◌&&◌, ◌||◌, false≢true, true≢false}
use native.Mathlib.Omega.{arith}
use native.Mathlib.Nat.{mul-mod_left}
use borrow.Author.Tests.{eqb-true, eq-eqb, not-true, not-false}
use lib.Dec.{eqb}
use lib.Pow.{shl-shr}
use Rattle.std.specs.Prelude.{if◌then◌else◌, Option, Some, None}
use Rattle.definition.specs.Words.{bit_of}
use Rattle.definition.specs.Registers.{on, code_of}
use Rattle.definition.specs.Memory.{Memory, fetch_of}
use Rattle.definition.specs.Transparent.{transparent}
use Rattle.definition.specs.Walk030.{Outcome, physical_of, shift_of}
use Rattle.definition.specs.Walk040.{walk040, page_bits, frame_of}
use Rattle.definition.specs.Cache030.{Entry, Cache030, no_entry, hit_of, after_hit}
use Rattle.definition.specs.Cache040.{Slot, forbids, hit040}
use Rattle.definition.specs.Refusal.{refusal_of}
use Rattle.definition.specs.Translate.{Caches, Translated, base_of, hit_address, joined, on_hit030, with030, translate030, on_hit040, translate040, in_order, translate, cacheless}
use Rattle.definition.specs.Probe.{probed, probe030, probe040, probe_in_order, probe_checks, probe}
use Rattle.definition.specs.Audit.{first_of_page, found_for030, is_access_code, is_end030, stale030, found_for040, is_end040, stale040, first_stale030, audit_family, audit_checks, audit_from, audit, bare, plain_access}
use Rattle.definition.proofs.Replay.{Moment, memory_at, after_all, answers_from, watched_of, walks_of, In, Steady, Accepted, CleanSnapshot, Since}
use Rattle.definition.specs.declared.Access.{Access}
use Rattle.definition.specs.declared.Audit.{Audit}
use Rattle.definition.specs.declared.End.{End}
use Rattle.definition.specs.declared.End.TheVariants.{Page, Invalid, LevelStop, BusError, Config}
use Rattle.definition.specs.declared.End040.{End040}
use Rattle.definition.specs.declared.End040.TheVariants.{Resident, Absent, Lost}
use Rattle.definition.specs.declared.Probe.{Probe}
use Rattle.definition.specs.declared.Translation.{Translation}
use Rattle.definition.specs.declared.Registers.{Registers}
use Rattle.definition.proofs.Choice.{if_by, and_left, and_right, or_left, or_right}
use Rattle.definition.proofs.Lists.{All, all_index}
use Rattle.definition.proofs.Entries.{Anything}
use Rattle.definition.proofs.Refusals.{none_four}
use Rattle.definition.proofs.Agree.{Throughout}
use Rattle.definition.proofs.Hits030.{Hits030, Good030}
use Rattle.definition.proofs.Hits040.{Hits040, Good040}
use Rattle.definition.proofs.Turns.{source, ReadsAlike}
use Rattle.definition.proofs.OneAccess.{Right, translate_answer, Sound, right_sound}
use Rattle.definition.proofs.Epochs.{Held}
use Rattle.definition.proofs.Independence.{From, Of, still_of, of_all, after_run, Run, run_answers, steady_left, steady_right, runs_alike}
use Rattle.definition.proofs.Said.{says_by, stale_at_030, stale_at_040}

-- ---- an entry that is not stale is good
-- what permits the access permits it by the walk's protection
covered : (write own walk : Bool) → (own || not walk) ≡ true → (write && own) ≡ false → (write && walk) ≡ false
covered false own walk t f = refl
covered true true walk t f = absurd (true≢false f)
covered true false true t f = absurd (false≢true t)
covered true false false t f = refl

covered_user : (supervisor own walk : Bool) → (supervisor || own || not walk) ≡ true → (not supervisor && own) ≡ false → (not supervisor && walk) ≡ false
covered_user true own walk t f = refl
covered_user false own walk t f = covered true own walk t f

left_of_two : (a x : Bool) → a ≡ true → (a && x) ≡ false → x ≡ false
left_of_two a x e f = rw e at f

both_true : (a b : Bool) → a ≡ true → b ≡ true → (a && b) ≡ true
both_true a b e d = rw (e, d)

-- the page's first address has no low bits to take off
based_first : (field consumed page s : ℕ)
    → base_of (physical_of field consumed (first_of_page page s)) (first_of_page page s) s ≡ physical_of field consumed (first_of_page page s)
based_first field consumed page s = rw (mul-mod_left page (2 ^ s)) (omega arith)

module _ (g : Registers) (m : Memory) (P : Memory → Type 0) (in-it : P m) where
  module _ (s : ℕ) (e : Entry) (sh : shift_of g.tc ≡ Some s) (write : Bool) (may : (write && e.wp) ≡ false) where
    end_hits : (o : Outcome) → found_for030 g m s e ≡ o → (end : End) → o.end ≡ end
        → is_end030 e (first_of_page e.page s) o.found.wp o.found.sup end ≡ true → Hits030 g P s e.code e.page e.base write
    end_hits o is (Page field consumed) i t =
        let allowed = and_left (not (o.found.sup && not (bit_of e.code 2))) _ t in
        let rest = and_right (not (o.found.sup && not (bit_of e.code 2))) _ t in
        let base_is = eqb-true (physical_of field consumed (first_of_page e.page s)) e.base (and_left _ _ rest) in
        record {
          over = m;
          seen = in-it;
          wp = o.found.wp;
          walked =
              record {
                shift = sh;
                address = first_of_page e.page s;
                at = shl-shr e.page s;
                field = field;
                consumed = consumed;
                end = rw is i;
                protect = rw is;
                allowed = rw is (not-true _ allowed);
                based = based_first field consumed e.page s ∙ base_is;
              };
          may = covered write e.wp o.found.wp (and_right (eqb (physical_of field consumed (first_of_page e.page s)) e.base) _ rest) may;
        }
    end_hits o is (Invalid indirect) i t = absurd (false≢true t)
    end_hits o is (BusError at) i t = absurd (false≢true t)
    end_hits o is LevelStop i t = absurd (false≢true t)
    end_hits o is Config i t = absurd (false≢true t)

  fresh_good : (s : ℕ) (e : Entry) → stale030 g m s e ≡ false → Good030 g P s e
  unfolding stale030
  fresh_good s e f family sh v a write may =
      let o = found_for030 g m s e in
      end_hits s e sh write may o refl o.end refl
      (not-false _ (left_of_two (e.valid && is_access_code e.code) _ (both_true e.valid (is_access_code e.code) v a) f))

  end_hits_040 : (s : Slot) (write : Bool) → forbids s.supervisor write s ≡ false → (end : End040) → (found_for040 g m s).end ≡ end
      → is_end040 g.tc s end ≡ true → Hits040 g P s.frame s.supervisor s.base write
  end_hits_040 s write may (Resident field wp sup) i t =
      let rest = and_right (eqb (frame_of g.tc field) s.base) _ t in
      record {
        over = m;
        seen = in-it;
        wp = wp;
        sup = sup;
        walked =
            record {
              address = first_of_page s.frame (page_bits g.tc);
              at = shl-shr s.frame (page_bits g.tc);
              field = field;
              end = i;
              allowed = covered_user s.supervisor s.sup sup (and_right (s.wp || not wp) _ rest) (or_right (write && s.wp) _ may);
              based = eqb-true (frame_of g.tc field) s.base (and_left _ _ t);
            };
        may = covered write s.wp wp (and_left (s.wp || not wp) _ rest) (or_left (write && s.wp) _ may);
      }
  end_hits_040 s write may (Absent missing) i t = absurd (false≢true t)
  end_hits_040 s write may (Lost at) i t = absurd (false≢true t)

  fresh_good_040 : (i : ℕ) (s : Slot) → stale040 g m s ≡ false → Good040 g P i s
  unfolding stale040
  fresh_good_040 i s f family v write may =
      end_hits_040 s write may (found_for040 g m s).end refl (not-false _ (left_of_two s.valid _ v f))

  -- so where the audit says Clean the caches are right, over any memories that m is one of
  pub clean_right : (c : Caches) → audit g m c ≡ Audit.Clean → Right g P c
  clean_right c e =
      let s = says_by g m c 0 Audit.Clean e in
      record {
        four = none_four (audit_checks g m c) s.0;
        in030 = all_index (Good030 g P c.c030.shift) c.c030.entries no_entry
            (λ i family sh. fresh_good c.c030.shift _ (sym (stale_at_030 g m c i family sh) ∙ s.1 i zero-le) family sh);
        in040 = λ i family. fresh_good_040 i _ (sym (stale_at_040 g m c i family) ∙ s.1 i zero-le) family;
      }

-- ---- one access
-- the one memory
abbrev Is : Memory → Memory → Type 0
Is m m' = m' ≡ m

-- the law: where the audit says Clean, every access gets the cacheless walk's answer
pub clean_is_right : (g : Registers) (m : Memory) (c : Caches) → audit g m c ≡ Audit.Clean
    → (a : Access) → (translate g a m c).answer ≡ (cacheless g a m).answer
clean_is_right g m c e a = translate_answer g (Is m) a m c (clean_right g m (Is m) refl c e) (λ m' i at j. rw i)

-- ---- the probe
-- two choices by one test
two_ifs : {A B : Type 0} (Q : A → B → Type 0) (b : Bool) (x y : A) (x' y' : B) → Q x x' → Q y y' → Q (if b then x else y) (if b then x' else y')
two_ifs Q true x y x' y' h k = h
two_ifs Q false x y x' y' h k = k

module _ (g : Registers) (m : Memory) (c : Caches) (own instruction write : Bool) (address x : ℕ) where
  -- a translation gives the address that the probe gives
  abbrev Gives : Probe → Translated → Type 0
  Gives p t = p ≡ Probe.Address x → t.answer ≡ Translation.Address x

  silent : {X : Type 0} → Probe.Nothing ≡ Probe.Address x → X
  silent e = let z : ◌≡◌ {A = ℕ} 0 1 = cc in absurd (omega arith)

  same_address : (y : ℕ) → Probe.Address y ≡ Probe.Address x → Translation.Address y ≡ Translation.Address x
  same_address y e = let z : y ≡ x = cc in rw z

  gives_030 : (sh : Option ℕ) → probe030 c.c030 (code_of own instruction) write address sh ≡ Probe.Address x
      → (with030 g m c.c030 false (code_of own instruction) address write sh).answer ≡ Translation.Address x
  gives_030 None e = silent e
  gives_030 (Some s) e = go (hit_of c.c030 (code_of own instruction) (address / 2 ^ s) s write) e
    where
      go : (hit : Option ℕ) → probed (λ (base : ℕ). hit_address base address s) hit ≡ Probe.Address x
          → (on_hit030 g m (after_hit c.c030 false (code_of own instruction) (address / 2 ^ s) s) (code_of own instruction) address write s hit).answer
          ≡ Translation.Address x
      go (Some base) e = same_address _ e
      go None e = silent e

  gives_030_whole : Gives (probe030 c.c030 (code_of own instruction) write address (shift_of g.tc)) (translate030 g (plain_access own instruction write address) m c)
  unfolding translate030
  gives_030_whole e = gives_030 (shift_of g.tc) e

  gives_040 : Gives (probe040 g c.c040 own write address) (translate040 g (plain_access own instruction write address) m c)
  unfolding translate040
  gives_040 e = go (hit040 c.c040 (address / 2 ^ page_bits g.tc) own write) e
    where
      go : (hit : Option ℕ) → probed (λ (base : ℕ). joined g.tc base address) hit ≡ Probe.Address x
          → (on_hit040 g (plain_access own instruction write address) m c hit).answer ≡ Translation.Address x
      go (Some base) e = same_address _ e
      go None e = silent e

  gives_in_order : Gives (probe_in_order g own instruction write address c) (in_order g (plain_access own instruction write address) m c)
  unfolding probe_in_order in_order
  gives_in_order =
      two_ifs Gives (not (on g)) _ _ _ _ silent
      (two_ifs Gives (transparent g address (code_of own instruction) instruction write) _ _ _ _ (same_address _)
      (two_ifs Gives (eqb g.family 30) _ _ _ _ gives_030_whole gives_040))

  gives : refusal_of (audit_checks g m c) ≡ 0 → probe g own instruction write address c ≡ Probe.Address x
      → (translate g (plain_access own instruction write address) m c).answer ≡ Translation.Address x
  unfolding translate probe
  gives r e =
      rw (eq-eqb (refusal_of (audit_checks g m c)) 0 r)
      (if_by (λ (p : Probe). p ≡ Probe.Address x → (in_order g (plain_access own instruction write address) m c).answer ≡ Translation.Address x)
      (eqb (refusal_of (probe_checks g c)) 0) _ _ (λ t f. gives_in_order f)
      (λ t f. let z : ◌≡◌ {A = ℕ} 0 1 = cc in absurd (omega arith)) e)

  -- the law: where the audit finds nothing, the probe's address is the cacheless walk's
  pub clean_probe : audit g m c ≡ Audit.Clean → probe g own instruction write address c ≡ Probe.Address x
      → (cacheless g (plain_access own instruction write address) m).answer ≡ Translation.Address x
  clean_probe e p =
      sym (clean_is_right g m c e (plain_access own instruction write address)) ∙ gives (says_by g m c 0 Audit.Clean e).0 p

-- ---- what the audit does not read
same_entry : (g : Registers) (m : Memory) (s : ℕ) → stale030 (bare g) m s ≡ stale030 g m s
unfolding stale030
same_entry g m s = λ i e. stale030 g m s e

same_slot : (g : Registers) (m : Memory) → stale040 (bare g) m ≡ stale040 g m
unfolding stale040 walk040
same_slot g m = λ i s. stale040 g m s

same_first : (g : Registers) (m : Memory) (c : Cache030) (from : ℕ) (sh : Option ℕ) → first_stale030 (bare g) m c from sh ≡ first_stale030 g m c from sh
same_first g m c from None = refl
same_first g m c from (Some s) = rw (same_entry g m s)

-- neither whether the PMMU is there and on, nor the transparent registers
pub switches_unread : (g : Registers) (m : Memory) (c : Caches) (from : ℕ) → audit_from (bare g) m c from ≡ audit_from g m c from
unfolding audit_from audit_family
switches_unread g m c from = rw (same_first g m c.c030 from (shift_of g.tc), same_slot g m)

-- so what is Clean is Clean, and right, whatever they become
pub clean_for : (g g' : Registers) (m : Memory) (c : Caches) → bare g ≡ bare g' → audit g m c ≡ Audit.Clean → audit g' m c ≡ Audit.Clean
clean_for g g' m c same e =
    sym (switches_unread g' m c 0) ∙ sym (ap (λ (r : Registers). audit r m c) same) ∙ switches_unread g m c 0 ∙ e

pub clean_however : (g g' : Registers) (m : Memory) (c : Caches) → bare g ≡ bare g' → audit g m c ≡ Audit.Clean
    → (a : Access) → (translate g' a m c).answer ≡ (cacheless g' a m).answer
clean_however g g' m c same e = clean_is_right g' m c (clean_for g g' m c same e)

-- ---- a run
-- the memory of the snapshot, or of one of the moments
abbrev FromEither : Memory → List Moment → Memory → Type 0
FromEither m l m' = (m' ≡ m) ⊎ Of l m'

still_from : (m : Memory) (l : List Moment) (n : Memory) (asked : List ℕ) → ((at : ℕ) → In at asked → fetch_of m at ≡ fetch_of n at)
    → ((now : Moment) (at : ℕ) → In now l → In at asked → fetch_of (memory_at now) at ≡ fetch_of n at) → Throughout (FromEither m l) n asked
still_from m l n asked first same m' o at i =
    ⊎_elim (λ (is : m' ≡ m). rw is (sym (first at i))) (λ (o : Of l m'). still_of l n asked same m' o at i) o

module _ (g : Registers) (m : Memory) (c : Caches) (h : CleanSnapshot g m c) where
  -- where the audit says Clean, all that the caches hold is as if it came of one access over the snapshot's memory
  clean_held : Held (source g m ∷ []) c
  clean_held =
      record {
        fit = record { size = h.size; four = (clean_right g m (Is m) refl c h.clean).four; held = all_index (Anything c.c030.shift) c.c030.entries no_entry (λ i. tt) };
        sound = λ w s.
            subst (λ (r : Registers). Sound r (ReadsAlike w) c) s.0.registers
            (right_sound g (ReadsAlike w) c h.size (clean_right g m (ReadsAlike w) s.0.reads c h.clean));
      }

  from_snapshot : (l : List Moment) → All (From g (FromEither m l)) (source g m ∷ [])
  from_snapshot l = (record { registers = refl; memory = inl refl }, tt)

  -- after any moments whatever from a clean snapshot an access gets the cacheless walk's answer, if its longs read as they do now in the snapshot and at
  -- each of the moments
  pub clean_after : (before : List Moment) (a : Access) (n : Memory) → ((at : ℕ) → In at (cacheless g a n).asked → fetch_of m at ≡ fetch_of n at)
      → ((now : Moment) (at : ℕ) → In now before → In at (cacheless g a n).asked → fetch_of (memory_at now) at ≡ fetch_of n at)
      → (translate g a n (after_all g c before)).answer ≡ (cacheless g a n).answer
  clean_after before a n first same =
      after_run g (FromEither m before) before (λ now i. inr (of_all before now i)) (source g m ∷ []) c clean_held (from_snapshot before) a n
      (still_from m before n (cacheless g a n).asked first same)

  snapshot_run : (l : List Moment) → Since g m l → Steady g l → Run g (FromEither m l) l (source g m ∷ []) c
  snapshot_run l since s =
      record {
        held = clean_held;
        from = from_snapshot l;
        over = λ now i. inr (of_all l now i);
        still = λ a n i. still_from m l n (cacheless g a n).asked (λ at k. since.same a n at i k) (λ now at j k. s.same a n now at i j k);
      }

  -- one run from a clean snapshot: each watched access gets the cacheless walk's address, fault or refusal
  pub clean_run : (l : List Moment) → Since g m l → Steady g l → answers_from g c l ≡ walks_of g l
  clean_run l since s = run_answers g (FromEither m l) l (source g m ∷ []) c (snapshot_run l since s)

-- the demand, of two runs from clean snapshots, the same or two, in place of the empty caches
pub clean_independence : (g : Registers) (m m' : Memory) (c c' : Caches) → CleanSnapshot g m c → CleanSnapshot g m' c' → (l l' : List Moment)
    → watched_of l ≡ watched_of l' → Since g m l → Since g m' l' → Steady g (l ++ l') → Accepted g (l ++ l')
    → (answers_from g c l ≡ answers_from g c' l') × (answers_from g c l ≡ walks_of g l)
clean_independence g m m' c c' h h' l l' e since since' s t =
    runs_alike g (FromEither m l) (FromEither m' l') l l' (source g m ∷ []) (source g m' ∷ []) c c'
    (snapshot_run g m c h l since (steady_left g l l' s)) (snapshot_run g m' c' h' l' since' (steady_right g l l' s)) e s t
