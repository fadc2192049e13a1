-- A hit of the 68040 cache gives what the walk gives, where its slots are good: each has its walk, over a memory where the longs of the walk read the
-- same as now. Assumes nothing.
use Rattle.std.specs.Prelude.{Option, Some, None}
use Prim.Native.Nat.{ℕ, ◌/◌, ◌%◌, ◌^◌}
use mathlib.Core.Path.{◌≡◌, refl, ap, sym, ◌∙◌}
use mathlib.Core.List.{List}
use mathlib.Core.Bool.{Bool, true, false, not, ◌&&◌, false≢true}
use borrow.Author.Tests.{eqb-true, not-true}
use lib.Dec.{eqb}
use Rattle.definition.specs.Registers.{as_supervisor}
use Rattle.definition.specs.Memory.{Memory}
use Rattle.definition.specs.Walk040.{Outcome040, walk040, page_bits, physical040}
use Rattle.definition.specs.Cache040.{Slot, Cache040, empty040, slot_at, holds, forbids, slot_hit, hit040}
use Rattle.definition.specs.Translate.{Caches, empty_caches, Translated, on_end040, concluded040, joined, on_hit040, translate040}
use Rattle.definition.specs.declared.Access.{Access}
use Rattle.definition.specs.declared.End040.{End040}
use Rattle.definition.specs.declared.End040.TheVariants.{Resident, Absent, Lost}
use Rattle.definition.specs.declared.Registers.{Registers}
use Rattle.definition.specs.declared.Translation.TheVariants.{Address}
use Rattle.definition.proofs.Choice.{if_by, if_both, if_alike, and_left, and_right, or_left, same_bool_lem}
use Rattle.definition.proofs.Agree.{Throughout}
use Rattle.definition.proofs.Asked040.{asked_040}
use Rattle.definition.proofs.Page040.{page_040, base_040}
use Rattle.definition.proofs.Hits030.{no_hit}
use Rattle.definition.proofs.Entries040.{Walked040, OfSlots, New040, Sound040, empty_sound}

-- ---- what a search answers and asks for does not depend on the caches
end_answer : (g : Registers) (a : Access) (c c' : Caches) (asked : List ℕ) (e : End040) → (on_end040 g a c asked e).answer ≡ (on_end040 g a c' asked e).answer
end_answer g a c c' asked (Resident field wp sup) =
    if_alike (λ (t : Translated). t.answer) (a.write && wp) _ _ _ _ (λ _. refl)
    (λ _. if_alike (λ (t : Translated). t.answer) (not (as_supervisor a) && sup) _ _ _ _ (λ _. refl) (λ _. refl))
end_answer g a c c' asked (Absent missing) = refl
end_answer g a c c' asked (Lost at) = refl

end_asked : (g : Registers) (a : Access) (c : Caches) (asked : List ℕ) (e : End040) → (on_end040 g a c asked e).asked ≡ asked
end_asked g a c asked (Resident field wp sup) =
    if_both (λ (t : Translated). t.asked ≡ asked) (a.write && wp) _ _ refl
    (if_both (λ (t : Translated). t.asked ≡ asked) (not (as_supervisor a) && sup) _ _ refl refl)
end_asked g a c asked (Absent missing) = refl
end_asked g a c asked (Lost at) = refl

-- what the walk of an access gives
abbrev pub walked040 : Registers → Access → Memory → Outcome040
walked040 g a m = walk040 m g a.address (as_supervisor a)

module _ (g : Registers) (m : Memory) (a : Access) where
  pub search_answer : (c c' : Caches) → (concluded040 g a c (walked040 g a m)).answer ≡ (concluded040 g a c' (walked040 g a m)).answer
  search_answer c c' = end_answer g a c c' _ (walked040 g a m).end

  pub search_asked : (c : Caches) → (concluded040 g a c (walked040 g a m)).asked ≡ (walked040 g a m).asked
  search_asked c = end_asked g a c _ (walked040 g a m).end

-- a hit with this base has its walk over a memory of P, which permits it
pub record Hits040 (g : Registers) (P : Memory → Type 0) (frame : ℕ) (supervisor : Bool) (base : ℕ) (write : Bool) : Type 0 where
  pub over : Memory
  pub seen : P over
  pub wp : Bool
  pub sup : Bool
  pub walked : Walked040 g over frame supervisor base wp sup
  pub may : (write && wp) ≡ false

-- a slot that accesses under g can meet is good, wherever it stands: each read or write that it permits has such a walk
abbrev pub Good040 : Registers → (Memory → Type 0) → ℕ → Slot → Type 0
Good040 g P i s =
    eqb g.family 30 ≡ false → s.valid ≡ true → (write : Bool) → forbids s.supervisor write s ≡ false
    → Hits040 g P s.frame s.supervisor s.base write

module _ (g : Registers) (P : Memory → Type 0) where
  pub good_slots : OfSlots (Good040 g P)
  good_slots = record { invalid = λ i s f a v. absurd (false≢true (sym f ∙ v)) }

  -- what a walk finds is good
  pub good_new : (m : Memory) → P m → New040 (Good040 g P) g m
  good_new m p frame supervisor base wp sup w a v write f =
      record { over = m; seen = p; wp = wp; sup = sup; walked = w; may = or_left (write && wp) _ f }

-- a slot that hits is valid, has the key and the base, and permits the access
pub record Met040 (s : Slot) (frame : ℕ) (supervisor : Bool) (base : ℕ) (write : Bool) : Type 0 where
  pub valid : s.valid ≡ true
  pub frame_is : s.frame ≡ frame
  pub supervisor_is : s.supervisor ≡ supervisor
  pub base_is : s.base ≡ base
  pub permits : forbids supervisor write s ≡ false

pub met_040 : (s : Slot) (frame : ℕ) (supervisor : Bool) (base : ℕ) (write : Bool) → slot_hit frame supervisor write s ≡ Some base
    → Met040 s frame supervisor base write
met_040 s frame supervisor base write =
    if_by (λ (hit : Option ℕ). hit ≡ Some base → Met040 s frame supervisor base write) (holds frame supervisor s && not (forbids supervisor write s)) _ _
    (λ t h.
    let held = and_left (holds frame supervisor s) _ t in
    let key = and_right s.valid _ held in
    record {
      valid = and_left s.valid _ held;
      frame_is = eqb-true s.frame frame (and_left _ _ key);
      supervisor_is = same_bool_lem s.supervisor supervisor (and_right (eqb s.frame frame) _ key);
      base_is = cc;
      permits = not-true (forbids supervisor write s) (and_right (holds frame supervisor s) _ t);
    })
    (λ f h. no_hit base h)

module _ (g : Registers) (P : Memory → Type 0) where
  pub hit_040 : (c : Cache040) (frame : ℕ) (supervisor : Bool) (base : ℕ) (write : Bool) → eqb g.family 30 ≡ false → Sound040 (Good040 g P) c
      → hit040 c frame supervisor write ≡ Some base → Hits040 g P frame supervisor base write
  unfolding hit040
  hit_040 c frame supervisor base write family h e =
      let met = met_040 (slot_at c frame) frame supervisor base write e in
      let permits = met.permits in
      let hits = h (frame % 64) family met.valid write (rw met.supervisor_is permits) in
      rw (met.frame_is, met.supervisor_is, met.base_is) at hits

  -- ---- a hit answers as a search does
  page_answer : (a : Access) (c : Caches) (field : ℕ) (wp sup : Bool) (o : Outcome040) → o.end ≡ Resident field wp sup → (a.write && wp) ≡ false
      → (not (as_supervisor a) && sup) ≡ false → (concluded040 g a c o).answer ≡ Address (physical040 g.tc field a.address)
  page_answer a c field wp sup o e f k = rw (e, f, k)

  module _ (m : Memory) (a : Access) (steady : Throughout P m (walked040 g a m).asked) where
    hit_answer : (c : Caches) (base : ℕ) → Hits040 g P (a.address / 2 ^ page_bits g.tc) (as_supervisor a) base a.write
        → Address (joined g.tc base a.address) ≡ (concluded040 g a c (walked040 g a m)).answer
    hit_answer c base k =
        let w = k.walked in
        let same : walked040 g a m ≡ walk040 k.over g w.address (as_supervisor a) =
        asked_040 m k.over g a.address (as_supervisor a) (steady k.over k.seen)
        ∙ page_040 k.over g a.address w.address (sym w.at) (as_supervisor a) in
        ap (λ (b : ℕ). Address (joined g.tc b a.address)) (sym w.based)
        ∙ ap Address (base_040 g.tc w.field a.address)
        ∙ sym (page_answer a c w.field k.wp k.sup (walk040 k.over g w.address (as_supervisor a)) w.end k.may w.allowed)
        ∙ ap (λ (o : Outcome040). (concluded040 g a c o).answer) (sym same)

    -- the law: with good slots a translation answers as a search from the empty cache
    pub with_answer : (c : Caches) → eqb g.family 30 ≡ false → Sound040 (Good040 g P) c.c040
        → (translate040 g a m c).answer ≡ (concluded040 g a empty_caches (walked040 g a m)).answer
    unfolding translate040
    with_answer c family h = go (hit040 c.c040 (a.address / 2 ^ page_bits g.tc) (as_supervisor a) a.write) refl
      where
        go : (hit : Option ℕ) → hit040 c.c040 (a.address / 2 ^ page_bits g.tc) (as_supervisor a) a.write ≡ hit
            → (on_hit040 g a m c hit).answer ≡ (concluded040 g a empty_caches (walked040 g a m)).answer
        go (Some base) e =
            hit_answer empty_caches base (hit_040 c.c040 (a.address / 2 ^ page_bits g.tc) (as_supervisor a) base a.write family h e)
        go None e = search_answer g m a c empty_caches

-- ---- the cacheless walk: the empty cache has no slot to meet
empty_misses : (frame : ℕ) (supervisor write : Bool) → hit040 empty040 frame supervisor write ≡ None
unfolding hit040
empty_misses frame supervisor write =
    rw (empty_sound (λ i s. s.valid ≡ false) (record { invalid = λ i s f. f }) (frame % 64))

module _ (g : Registers) (m : Memory) (a : Access) where
  pub empty_answer : (translate040 g a m empty_caches).answer ≡ (concluded040 g a empty_caches (walked040 g a m)).answer
  unfolding translate040
  empty_answer = rw (empty_misses (a.address / 2 ^ page_bits g.tc) (as_supervisor a) a.write)

  pub empty_asked : (translate040 g a m empty_caches).asked ≡ (walked040 g a m).asked
  unfolding translate040
  empty_asked = rw (empty_misses (a.address / 2 ^ page_bits g.tc) (as_supervisor a) a.write) (search_asked g m a empty_caches)
