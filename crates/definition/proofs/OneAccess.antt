-- One access: to caches that are right for it, what it is answered does not depend on anything but the longs that its cacheless walk asks for; and what
-- keeps caches right. Assumes nothing but what the statements say.
use mathlib.Core.Path.{◌≡◌, refl, ap, sym, subst, ◌∙◌}
use mathlib.Core.Bool.{Bool, true, false, not}
use borrow.Author.Tests.{eq-eqb, not-true}
use lib.Dec.{eqb}
use lib.ListN.{length}
use Rattle.definition.specs.Words.{all_of}
use Rattle.definition.specs.Registers.{on, code_of, as_supervisor, as_instruction, walk_code, compared_code}
use Rattle.definition.specs.Memory.{Memory}
use Rattle.definition.specs.Transparent.{transparent}
use Rattle.definition.specs.Walk030.{Outcome, every_level, shift_of}
use Rattle.definition.specs.Walk040.{Outcome040}
use Rattle.definition.specs.Cache030.{Entry, empty030}
use Rattle.definition.specs.Cache040.{Slot}
use Rattle.definition.specs.Refusal.{refusal_of, bad_cache}
use Rattle.definition.specs.Translate.{Caches, empty_caches, Translated, concluded030, search030, translate030, concluded040, translate040, in_order, translate_checks, translate, cacheless}
use Rattle.definition.specs.Audit.{is_access_code}
use Rattle.definition.specs.declared.Registers.{Registers}
use Rattle.definition.specs.declared.Access.{Access}
use Rattle.definition.specs.declared.Translation.{Translation}
use Rattle.definition.proofs.Choice.{if_given, if_given_by, and_left, and_right}
use Rattle.definition.proofs.Lists.{All, all_by, all_passed}
use Rattle.definition.proofs.Agree.{Agree, Throughout}
use Rattle.definition.proofs.Turns.{vacant}
use Rattle.definition.proofs.Asked030.{asked_030}
use Rattle.definition.proofs.Asked040.{asked_040}
use Rattle.definition.proofs.Entries030.{Sound030}
use Rattle.definition.proofs.Entries030 as of030
use Rattle.definition.proofs.Entries040.{Sound040}
use Rattle.definition.proofs.Entries040 as of040
use Rattle.definition.proofs.Entries.{Both, Keeps, Fit}
use Rattle.definition.proofs.Hits030.{Good030}
use Rattle.definition.proofs.Hits030 as hits030
use Rattle.definition.proofs.Hits040.{Good040}
use Rattle.definition.proofs.Hits040 as hits040

-- ---- one access
abbrev answer_of : Translated → Translation
answer_of t = t.answer

-- two translations that differ only past the tests for an enabled PMMU, a transparent match and the family, given what holds of the first
order_alike : (g : Registers) (a : Access) (m m' : Memory) (c c' : Caches) (Q : Translated → Type 0)
    → (eqb g.family 30 ≡ true → Q (translate030 g a m c) → (translate030 g a m c).answer ≡ (translate030 g a m' c').answer)
    → (eqb g.family 30 ≡ false → Q (translate040 g a m c) → (translate040 g a m c).answer ≡ (translate040 g a m' c').answer)
    → Q (in_order g a m c) → (in_order g a m c).answer ≡ (in_order g a m' c').answer
unfolding in_order
order_alike g a m m' c c' Q h k =
    if_given Q answer_of (not (on g)) _ _ _ _ (λ _. refl)
    (if_given Q answer_of (transparent g a.address (compared_code a) (as_instruction a) a.write) _ _ _ _ (λ _. refl)
    (if_given_by Q answer_of (eqb g.family 30) _ _ _ _ h k))

-- both caches are right for accesses under g: check 4 passes, and each entry and slot that they can meet has its walk over a memory of P
pub record Right (g : Registers) (P : Memory → Type 0) (c : Caches) : Type 0 where
  pub four : bad_cache c.c030 ≡ false
  pub in030 : All (Good030 g P c.c030.shift) c.c030.entries
  pub in040 : Sound040 (Good040 g P) c.c040

access_code : (supervisor instruction : Bool) → is_access_code (code_of supervisor instruction) ≡ true
access_code false false = refl
access_code false true = refl
access_code true false = refl
access_code true true = refl

module _ (g : Registers) (P : Memory → Type 0) (a : Access) (m : Memory) (c : Caches) (h : Right g P c) where
  same_030 : eqb g.family 30 ≡ true → Throughout P m (translate030 g a m empty_caches).asked
      → (translate030 g a m c).answer ≡ (translate030 g a m empty_caches).answer
  unfolding translate030
  same_030 f t =
      hits030.with_answer g P m (walk_code a) a.address a.write
      (rw (hits030.empty_asked g m (walk_code a) a.address a.write a.recorded (shift_of g.tc)) at t)
      c.c030 a.recorded (shift_of g.tc) f refl (access_code (as_supervisor a) (as_instruction a)) h.in030
      ∙ sym (hits030.empty_answer g m (walk_code a) a.address a.write a.recorded (shift_of g.tc))

  same_040 : eqb g.family 30 ≡ false → Throughout P m (translate040 g a m empty_caches).asked
      → (translate040 g a m c).answer ≡ (translate040 g a m empty_caches).answer
  same_040 f t =
      hits040.with_answer g P m a (rw (hits040.empty_asked g m a) at t) c f h.in040 ∙ sym (hits040.empty_answer g m a)

  -- its longs read the same throughout P
  abbrev Still : Translated → Type 0
  Still t = Throughout P m t.asked

  same_order : Still (in_order g a m empty_caches) → (in_order g a m empty_caches).answer ≡ (in_order g a m c).answer
  same_order = order_alike g a m m empty_caches c Still (λ f t. sym (same_030 f t)) (λ f t. sym (same_040 f t))

  -- check 4 passes, so the refusal is the cacheless walk's
  same_checks : translate_checks g a m c ≡ translate_checks g a m empty_caches
  same_checks = rw h.four

  -- the law of one access: caches that are right for it over memories where its walk's longs read the same change nothing
  pub translate_answer : Throughout P m (cacheless g a m).asked → (translate g a m c).answer ≡ (cacheless g a m).answer
  unfolding translate
  translate_answer t =
      rw same_checks
      (sym (if_given Still answer_of (eqb (refusal_of (translate_checks g a m empty_caches)) 0) _ _ _ _ same_order (λ _. refl) t))

-- ---- one access over two memories
accepted : (g : Registers) (a : Access) (m : Memory) → refusal_of (translate_checks g a m empty_caches) ≡ 0 → cacheless g a m ≡ in_order g a m empty_caches
unfolding translate
accepted g a m e = rw (eq-eqb (refusal_of (translate_checks g a m empty_caches)) 0 e)

module _ (g : Registers) (a : Access) (m m' : Memory) where
  two_030 : Agree m m' (translate030 g a m empty_caches).asked → (translate030 g a m empty_caches).answer ≡ (translate030 g a m' empty_caches).answer
  unfolding translate030 search030
  two_030 t =
      hits030.empty_answer g m (walk_code a) a.address a.write a.recorded (shift_of g.tc)
      ∙ ap (λ (o : Outcome). (concluded030 g.tc empty030 (walk_code a) a.address a.write o).answer)
      (asked_030 m m' g a.address (walk_code a) every_level
      (rw (hits030.empty_asked g m (walk_code a) a.address a.write a.recorded (shift_of g.tc)) at t))
      ∙ sym (hits030.empty_answer g m' (walk_code a) a.address a.write a.recorded (shift_of g.tc))

  two_040 : Agree m m' (translate040 g a m empty_caches).asked → (translate040 g a m empty_caches).answer ≡ (translate040 g a m' empty_caches).answer
  two_040 t =
      hits040.empty_answer g m a
      ∙ ap (λ (o : Outcome040). (concluded040 g a empty_caches o).answer)
      (asked_040 m m' g a.address (as_supervisor a) (rw (hits040.empty_asked g m a) at t))
      ∙ sym (hits040.empty_answer g m' a)

  -- the second memory gives the same at its longs
  abbrev Kept : Translated → Type 0
  Kept t = Agree m m' t.asked

  -- the law of one cacheless walk: over two memories that give the same at its longs it answers alike
  pub cacheless_answer : refusal_of (translate_checks g a m empty_caches) ≡ 0 → refusal_of (translate_checks g a m' empty_caches) ≡ 0
      → Agree m m' (cacheless g a m).asked → (cacheless g a m).answer ≡ (cacheless g a m').answer
  cacheless_answer e e' t =
      ap answer_of (accepted g a m e)
      ∙ order_alike g a m m' empty_caches empty_caches Kept (λ _. two_030) (λ _. two_040) (subst Kept (accepted g a m e) t)
      ∙ ap answer_of (sym (accepted g a m' e'))

-- ---- caches that stay right
-- check 4 passes, the cache has its 22 entries, and they and the slots are good: so it stays, over memories of P
abbrev pub Sound : Registers → (Memory → Type 0) → Caches → Type 0
Sound g P = Both (Sound030 (Good030 g P)) (Sound040 (Good040 g P))

module _ (g : Registers) (P : Memory → Type 0) where
  pub empty_sound : Sound g P empty_caches
  empty_sound =
      record {
        in030 = of030.empty_sound (Good030 g P) (hits030.good_entries g P);
        in040 = of040.empty_sound (Good040 g P) (hits040.good_slots g P);
      }

  -- caches without a valid entry are sound for anything
  pub vacant_sound : (c : Caches) → Fit c → vacant c ≡ true → Sound g P c
  unfolding vacant
  vacant_sound c fit v =
      let none = all_passed (λ (e : Entry). not e.valid) c.c030.entries (and_left _ _ v) in
      let free = all_passed (λ (s : Slot). not s.valid) c.c040.slots (and_right (all_of (λ (e : Entry). not e.valid) c.c030.entries) _ v) in
      record {
        in030 = of030.invalid_sound (Good030 g P) (hits030.good_entries g P) c.c030 fit.size fit.four
            (all_by (λ (e : Entry). not e.valid ≡ true) (λ (e : Entry). e.valid ≡ false) (λ e t. not-true e.valid t) c.c030.entries none);
        in040 = of040.each_invalid (Good040 g P) (hits040.good_slots g P) c.c040.slots
            (all_by (λ (s : Slot). not s.valid ≡ true) (λ (s : Slot). s.valid ≡ false) (λ s t. not-true s.valid t) c.c040.slots free);
      }

  pub sound_keeps : (m : Memory) → P m → Keeps (Sound030 (Good030 g P)) (Sound040 (Good040 g P)) g m
  sound_keeps m p =
      record {
        in030 = of030.sound_keeps (Good030 g P) (hits030.good_entries g P) g m (hits030.good_new g P m p);
        in040 = of040.sound_keeps (Good040 g P) (hits040.good_slots g P) g m (hits040.good_new g P m p);
      }

  pub sound_right : (c : Caches) → Sound g P c → Right g P c
  sound_right c h = record { four = h.in030.four; in030 = h.in030.held; in040 = h.in040 }

  pub right_sound : (c : Caches) → length c.c030.entries ≡ 22 → Right g P c → Sound g P c
  right_sound c size h = record { in030 = record { size = size; four = h.four; held = h.in030 }; in040 = h.in040 }
