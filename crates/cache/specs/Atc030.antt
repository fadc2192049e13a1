-- The 68030's cache in one array of 69 numbers, for every content of it:
-- 22 tags page * 16 + code * 2 + valid; 22 pages base * 2 + WP; 22 stamps; the most recent index, the clock, the shift.
use Rattle.std.specs.Prelude.{ℕ, ◌+◌, ◌*◌, ◌-◌, ◌/◌, ◌%◌, ◌^◌, ◌≡◌, Bool, not, List, [], ◌∷◌, map, eqb, ltb, leb, length, get_or, set, ◌<◌, ◌≤◌, Option, MatchOption, if◌then◌else◌}
use Rattle.definition.specs.Words.{first_of, count_of, all_of}
use Rattle.definition.specs.Cache030.{Entry, Cache030, hit_of, after_hit}
use Rattle.cache.specs.Packed.{odd, part}

-- ---- the cache that the array is
abbrev pub entry_of : ℕ → ℕ → ℕ → Entry
entry_of t p s = record { valid = odd t; code = t / 2 % 8; page = t / 16; base = p / 2; wp = odd p; stamp = s }

unfoldable pub entries_of : List ℕ → List ℕ → List ℕ → List Entry
entries_of [] ps ss = []
entries_of (t ∷ ts) [] ss = []
entries_of (t ∷ ts) (p ∷ ps) [] = []
entries_of (t ∷ ts) (p ∷ ps) (s ∷ ss) = entry_of t p s ∷ entries_of ts ps ss

abbrev pub tags_of : List ℕ → List ℕ
tags_of l = part 0 22 l

abbrev pub pages_of : List ℕ → List ℕ
pages_of l = part 22 22 l

abbrev pub stamps_of : List ℕ → List ℕ
stamps_of l = part 44 22 l

abbrev pub recent_in : List ℕ → ℕ
recent_in l = get_or l 66 0

abbrev pub clock_in : List ℕ → ℕ
clock_in l = get_or l 67 0

abbrev pub shift_in : List ℕ → ℕ
shift_in l = get_or l 68 0

unfoldable pub cache_of : List ℕ → Cache030
cache_of l =
    record { entries = entries_of (tags_of l) (pages_of l) (stamps_of l); recent = recent_in l; clock = clock_in l; shift = shift_in l }

-- ---- what the public functions promise
-- the array at the end is the cache that f makes of the one at the start
pub record Stepped (f : Cache030 → Cache030) (l l' : List ℕ) : Type 0 where
  pub leaves : cache_of l' ≡ f (cache_of l)
  pub sized : length l' ≡ 69

-- a look answers r, and leaves the array
pub record Looked (l : List ℕ) (code page shift : ℕ) (write recorded : Bool) (r : Option ℕ) (l' : List ℕ) : Type 0 where
  pub answers : r ≡ hit_of (cache_of l) code page shift write
  pub steps : Stepped (λ (c : Cache030). after_hit c recorded code page shift) l l'

-- ---- what the private functions do, on the numbers
-- the tag of a valid entry with this key
abbrev pub key_of : ℕ → ℕ → ℕ
key_of code page = page * 16 + code * 2 + 1

-- the place of a key's entry, and 22 where there is none
unfoldable pub match_in : List ℕ → ℕ → ℕ → ℕ
match_in ts recent key = if eqb key (get_or ts recent 0) then recent else first_of (eqb key) ts

-- the same for a look at a shift
unfoldable pub held_in : List ℕ → ℕ → ℕ → ℕ
held_in l key shift = if eqb (shift_in l) shift then match_in (tags_of l) (recent_in l) key else 22

-- r is the place i of an entry, and none where i is past the last
abbrev pub IsPlace : ℕ → Option ℕ → Type 0
IsPlace i r = MatchOption r (22 ≤ i) (λ k. (k ≡ i) × (k < 22))

-- the place of the smallest number, the lowest among equals
unfoldable pub least_of : List ℕ → ℕ
least_of l = first_of (λ (x : ℕ). all_of (λ (y : ℕ). leb x y) l) l

-- the place that an insert takes
unfoldable pub place_of : List ℕ → List ℕ → ℕ → ℕ
place_of ts ss key =
    if ltb (first_of (eqb key) ts) 22
    then first_of (eqb key) ts
    else if ltb (first_of (λ (t : ℕ). not (odd t)) ts) 22
    then first_of (λ (t : ℕ). not (odd t)) ts
    else least_of ss

-- each number becomes the number of smaller ones
unfoldable pub ranked : List ℕ → List ℕ
ranked l = map (λ (x : ℕ). count_of (λ (y : ℕ). ltb y x) l) l

-- the stamps and the clock, before the clock k is raised
abbrev pub rest_stamps : ℕ → List ℕ → List ℕ
rest_stamps k ss = if eqb k (2 ^ 64 - 1) then ranked ss else ss

abbrev pub rest_clock : ℕ → ℕ
rest_clock k = if eqb k (2 ^ 64 - 1) then 22 else k

-- the stamps after a use of entry i at the clock k
unfoldable pub used_stamps : List ℕ → ℕ → ℕ → List ℕ
used_stamps ss k i = set (rest_stamps k ss) i (rest_clock k + 1)

-- the array l has these parts: tags, pages, stamps, most recent index, clock, shift
pub record Parts (l ts ps ss : List ℕ) (r k s : ℕ) : Type 0 where
  pub size : length l ≡ 69
  pub tags : tags_of l ≡ ts
  pub pages : pages_of l ≡ ps
  pub stamps : stamps_of l ≡ ss
  pub recent : recent_in l ≡ r
  pub clock : clock_in l ≡ k
  pub shift : shift_in l ≡ s

-- the array l after a use of entry i
abbrev pub Used : List ℕ → ℕ → List ℕ → Type 0
Used l i l' =
    Parts l' (tags_of l) (pages_of l) (used_stamps (stamps_of l) (clock_in l) i) i (rest_clock (clock_in l) + 1) (shift_in l)
