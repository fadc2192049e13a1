-- The 68040's cache in one array of 128 numbers, for every content of it:
-- 64 keys frame * 4 + supervisor * 2 + valid; 64 bases base * 4 + W * 2 + S.
use Rattle.std.specs.Prelude.{ℕ, ◌+◌, ◌*◌, ◌/◌, ◌≡◌, Bool, List, [], ◌∷◌, length}
use Rattle.definition.specs.Cache040.{Slot, Cache040}
use Rattle.cache.specs.Packed.{bit, odd, part}

-- ---- the cache that the array is
abbrev pub slot_of : ℕ → ℕ → Slot
slot_of k b =
    record { valid = odd k; frame = k / 4; supervisor = odd (k / 2); base = b / 4; wp = odd (b / 2); sup = odd b }

unfoldable pub slots_of : List ℕ → List ℕ → List Slot
slots_of [] bs = []
slots_of (k ∷ ks) [] = []
slots_of (k ∷ ks) (b ∷ bs) = slot_of k b ∷ slots_of ks bs

abbrev pub keys_of : List ℕ → List ℕ
keys_of l = part 0 64 l

abbrev pub bases_of : List ℕ → List ℕ
bases_of l = part 64 64 l

unfoldable pub cache040_of : List ℕ → Cache040
cache040_of l = record { slots = slots_of (keys_of l) (bases_of l) }

-- the key of a valid slot
abbrev pub key_of040 : ℕ → Bool → ℕ
key_of040 frame supervisor = frame * 4 + bit supervisor * 2 + 1

-- ---- what the public functions promise
-- the array at the end is the cache that f makes of the one at the start
pub record Stepped040 (f : Cache040 → Cache040) (l l' : List ℕ) : Type 0 where
  pub leaves : cache040_of l' ≡ f (cache040_of l)
  pub sized : length l' ≡ 128

-- the array l has these parts: keys, bases
pub record Parts040 (l ks bs : List ℕ) : Type 0 where
  pub size : length l ≡ 128
  pub keys : keys_of l ≡ ks
  pub bases : bases_of l ≡ bs
