-- The 68040 cache's slots: nothing changes one but to empty it, and nothing adds one but a walk of its key, in its own place. So what these keep of one
-- slot is kept of all. Assumes nothing.
use Prim.Native.Nat.{ℕ, zero, suc, ◌/◌, ◌%◌, ◌^◌}
use mathlib.Core.Path.{◌≡◌, refl}
use mathlib.Core.List.{List, [], ◌∷◌}
use mathlib.Core.Bool.{Bool, true, false, not, ◌&&◌}
use lib.Dec.{eqb}
use lib.ListN.{get_or, set, replicate}
use Rattle.definition.specs.Memory.{Memory}
use Rattle.definition.specs.Walk040.{walk040, page_bits, frame_of}
use Rattle.definition.specs.Cache040.{Slot, Cache040, no_slot, empty040, slot_at, inserted040, emptied, flushed_all040, flushed_frame}
use Rattle.definition.specs.declared.End040.TheVariants.{Resident}
use Rattle.definition.specs.declared.Registers.{Registers}
use Rattle.definition.proofs.Choice.{if_both}
use Rattle.definition.proofs.Lists.{All, all_get, all_replicate, all_made}

-- ---- what a call does to the cache
-- a walk of this frame and privilege under g and over m found the page with this base, W and S
pub record Walked040 (g : Registers) (m : Memory) (frame : ℕ) (supervisor : Bool) (base : ℕ) (wp sup : Bool) : Type 0 where
  pub address : ℕ
  pub at : address / 2 ^ page_bits g.tc ≡ frame
  pub field : ℕ
  pub end : (walk040 m g address supervisor).end ≡ Resident field wp sup
  pub allowed : (not supervisor && sup) ≡ false
  pub based : frame_of g.tc field ≡ base

-- the calls under g and over m keep I: a flush does, and an insert of what a walk found does
pub record Keeps040 (g : Registers) (m : Memory) (I : Cache040 → Type 0) : Type 0 where
  pub drop_all : (c : Cache040) → I c → I (flushed_all040 c)
  pub drop : (c : Cache040) (frame : ℕ) → I c → I (flushed_frame c frame)
  pub insert : (c : Cache040) (frame : ℕ) (supervisor : Bool) (base : ℕ) (wp sup : Bool) → Walked040 g m frame supervisor base wp sup → I c
      → I (inserted040 c frame supervisor base wp sup)

-- they keep what says nothing
pub free_040 : (g : Registers) (m : Memory) → Keeps040 g m (λ c. Unit {0})
free_040 g m = record { drop_all = λ c h. tt; drop = λ c frame h. tt; insert = λ c frame supervisor base wp sup w h. tt }

-- ---- what is kept of one slot is kept of all
-- B speaks of the slot at an index, and says nothing of one that is not valid
pub record OfSlots (B : ℕ → Slot → Type 0) : Type 0 where
  pub invalid : (i : ℕ) (s : Slot) → s.valid ≡ false → B i s

-- it holds of what a walk under g and over m finds, in its own place
abbrev pub New040 : (ℕ → Slot → Type 0) → Registers → Memory → Type 0
New040 B g m =
    (frame : ℕ) (supervisor : Bool) (base : ℕ) (wp sup : Bool) → Walked040 g m frame supervisor base wp sup
    → B (frame % 64) (record { valid = true; frame = frame; supervisor = supervisor; base = base; wp = wp; sup = sup })

-- B holds of each slot of a list, by its index
abbrev pub Each : (ℕ → Slot → Type 0) → List Slot → Type 0
Each B l = (i : ℕ) → B i (get_or l i no_slot)

abbrev pub Sound040 : (ℕ → Slot → Type 0) → Cache040 → Type 0
Sound040 B c = Each B c.slots

-- one slot is set
set_each : (B : ℕ → Slot → Type 0) (l : List Slot) (v : ℕ) (x : Slot) → B v x → Each B l → Each B (set l v x)
set_each B [] v x b h i = h i
set_each B (y ∷ l) zero x b h zero = b
set_each B (y ∷ l) zero x b h (suc i) = h (suc i)
set_each B (y ∷ l) (suc v) x b h zero = h 0
set_each B (y ∷ l) (suc v) x b h (suc i) = set_each (λ (i : ℕ). B (suc i)) l v x b (λ i. h (suc i)) i

-- a flush of all leaves no valid slot
pub flushed_all_invalid : (c : Cache040) → All (λ (s : Slot). s.valid ≡ false) (flushed_all040 c).slots
unfolding flushed_all040
flushed_all_invalid c = all_made (λ (s : Slot). s.valid ≡ false) emptied (λ s. refl) c.slots

module _ (B : ℕ → Slot → Type 0) (o : OfSlots B) where
  -- none is valid
  pub each_invalid : (l : List Slot) → All (λ (s : Slot). s.valid ≡ false) l → Each B l
  each_invalid l h i = o.invalid i (get_or l i no_slot) (all_get (λ (s : Slot). s.valid ≡ false) l i no_slot refl h)

  pub empty_sound : Sound040 B empty040
  empty_sound = each_invalid (replicate 64 no_slot) (all_replicate (λ (s : Slot). s.valid ≡ false) 64 no_slot refl)

  drop_frame_sound : (c : Cache040) (frame : ℕ) → Sound040 B c → Sound040 B (flushed_frame c frame)
  unfolding flushed_frame
  drop_frame_sound c frame h =
      if_both (Sound040 B) (eqb (slot_at c frame).frame frame) _ c
      (set_each B c.slots (frame % 64) (emptied (slot_at c frame)) (o.invalid (frame % 64) (emptied (slot_at c frame)) refl) h) h

  -- the law: every call keeps it
  pub sound_keeps : (g : Registers) (m : Memory) → New040 B g m → Keeps040 g m (Sound040 B)
  unfolding inserted040
  sound_keeps g m new =
      record {
        drop_all = λ c h. each_invalid (flushed_all040 c).slots (flushed_all_invalid c);
        drop = drop_frame_sound;
        insert = λ c frame supervisor base wp sup w h. set_each B c.slots (frame % 64) _ (new frame supervisor base wp sup w) h;
      }
