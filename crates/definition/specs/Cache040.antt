-- Document 01, 'The caches': the 68040's 64 slots.
use Rattle.std.specs.Prelude.{ℕ, ◌%◌, Bool, true, false, ◌&&◌, ◌||◌, not, List, map, eqb, get_or, set, replicate, if◌then◌else◌, Option, Some, None}

-- 'key frame .. and supervisor', with the page's base, W and S
pub record Slot : Type 0 where
  pub valid : Bool
  pub frame : ℕ
  pub supervisor : Bool
  pub base : ℕ
  pub wp : Bool
  pub sup : Bool

-- '64 slots'
pub record Cache040 : Type 0 where
  pub slots : List Slot

-- 'every number 0'
abbrev pub no_slot : Slot
no_slot = record { valid = false; frame = 0; supervisor = false; base = 0; wp = false; sup = false }

-- 'the empty caches that a replay starts from'
abbrev pub empty040 : Cache040
empty040 = record { slots = replicate 64 no_slot }

-- '64 slots, slot frame mod 64'
abbrev pub slot_at : Cache040 → ℕ → Slot
slot_at c frame = get_or c.slots (frame % 64) no_slot

-- the two are the same privilege
abbrev pub same_bool : Bool → Bool → Bool
same_bool true b = b
same_bool false b = not b

-- 'key frame .. and supervisor'
abbrev pub holds : ℕ → Bool → Slot → Bool
holds frame supervisor s = s.valid && (eqb s.frame frame && same_bool s.supervisor supervisor)

-- 'protection forbids': a write by W, a user by S
abbrev pub forbids : Bool → Bool → Slot → Bool
forbids supervisor write s = write && s.wp || not supervisor && s.sup

-- 'A hit that protection forbids is a miss.'
abbrev pub slot_hit : ℕ → Bool → Bool → Slot → Option ℕ
slot_hit frame supervisor write s =
    if holds frame supervisor s && not (forbids supervisor write s) then Some s.base else None

-- the base of the frame's slot
unfoldable pub hit040 : Cache040 → ℕ → Bool → Bool → Option ℕ
hit040 c frame supervisor write = slot_hit frame supervisor write (slot_at c frame)

-- a page takes its slot, whatever was there
unfoldable pub inserted040 : Cache040 → ℕ → Bool → ℕ → Bool → Bool → Cache040
inserted040 c frame supervisor base wp sup =
    record {
      slots = set c.slots (frame % 64) (record { valid = true; frame = frame; supervisor = supervisor; base = base; wp = wp; sup = sup });
    }

-- 'Flushes only mark invalid'
abbrev pub emptied : Slot → Slot
emptied s = record { valid = false; frame = s.frame; supervisor = s.supervisor; base = s.base; wp = s.wp; sup = s.sup }

-- 'empties both': this one
unfoldable pub flushed_all040 : Cache040 → Cache040
flushed_all040 c = record { slots = map emptied c.slots }

-- 'A page flush drops that frame for either privilege.'
unfoldable pub flushed_frame : Cache040 → ℕ → Cache040
flushed_frame c frame =
    if eqb (slot_at c frame).frame frame
    then record { slots = set c.slots (frame % 64) (emptied (slot_at c frame)) }
    else c
