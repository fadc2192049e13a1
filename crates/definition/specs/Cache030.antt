-- Document 01, 'The caches': the 68030's 22 entries, their matching, insert and flushes.
use Rattle.std.specs.Prelude.{ℕ, ◌+◌, ◌-◌, ◌/◌, ◌^◌, Bool, true, false, ◌&&◌, not, List, map, eqb, ltb, leb, length, get_or, set, replicate, if◌then◌else◌, Option, Some, None}
use Rattle.definition.specs.Words.{agrees, first_of, count_of, all_of}

-- 'keyed by the walk's code .. and page', with the page's base, WP and a stamp
pub record Entry : Type 0 where
  pub valid : Bool
  pub code : ℕ
  pub page : ℕ
  pub base : ℕ
  pub wp : Bool
  pub stamp : ℕ

-- the entries, the most recent one's index, the clock, and the shift that the entries were made under
pub record Cache030 : Type 0 where
  pub entries : List Entry
  pub recent : ℕ
  pub clock : ℕ
  pub shift : ℕ

-- 'every number 0'
abbrev pub no_entry : Entry
no_entry = record { valid = false; code = 0; page = 0; base = 0; wp = false; stamp = 0 }

-- 'the empty caches that a replay starts from also have every number 0'
abbrev pub empty030 : Cache030
empty030 = record { entries = replicate 22 no_entry; recent = 0; clock = 0; shift = 0 }

-- with other entries
abbrev pub with_entries : List Entry → Cache030 → Cache030
with_entries es c = record { entries = es; recent = c.recent; clock = c.clock; shift = c.shift }

-- ---- matching
-- 'keyed by the walk's code .. and page'
abbrev pub matches : ℕ → ℕ → Entry → Bool
matches code page e = e.valid && (eqb e.code code && eqb e.page page)

-- 'Matching tries the most recent entry, then the lowest index.' The number of entries where none matches
unfoldable pub matching : Cache030 → ℕ → ℕ → ℕ
matching c code page =
    if matches code page (get_or c.entries c.recent no_entry)
    then c.recent
    else first_of (matches code page) c.entries

-- ---- use
-- with another stamp
abbrev pub stamped : ℕ → Entry → Entry
stamped n e = record { valid = e.valid; code = e.code; page = e.page; base = e.base; wp = e.wp; stamp = n }

-- 'with the clock at 2^64 - 1, before it is raised each stamp becomes the number of smaller stamps and the clock 22'
unfoldable pub rested : Cache030 → Cache030
rested c =
    if eqb c.clock (2 ^ 64 - 1)
    then record {
      entries = map (λ (e : Entry). stamped (count_of (λ (f : Entry). ltb f.stamp e.stamp) c.entries) e) c.entries;
      recent = c.recent;
      clock = 22;
      shift = c.shift;
    }
    else c

-- 'raises the clock by 1, stamps the entry with it and makes it most recent': entry i, made anew by f
abbrev pub put_at : Cache030 → ℕ → (ℕ → Entry) → Cache030
put_at c i f = record { entries = set c.entries i (f (c.clock + 1)); recent = i; clock = c.clock + 1; shift = c.shift }

-- 'A recorded hit on another entry ..': on the most recent one nothing changes
unfoldable pub touched : Cache030 → ℕ → Cache030
touched c i =
    if eqb i c.recent
    then c
    else put_at (rested c) i (λ (n : ℕ). stamped n (get_or (rested c).entries i no_entry))

-- ---- look up
-- 'A different shift misses'
abbrev pub found : Cache030 → ℕ → ℕ → ℕ → Bool
found c code page shift = eqb c.shift shift && ltb (matching c code page) (length c.entries)

-- the entry that matches
abbrev pub entry_for : Cache030 → ℕ → ℕ → Entry
entry_for c code page = get_or c.entries (matching c code page) no_entry

-- 'WP .. makes a write miss'
abbrev pub permitted : Bool → Entry → Option ℕ
permitted write e = if write && e.wp then None else Some e.base

-- the base of the page's entry, unless 'WP .. makes a write miss'
unfoldable pub hit_of : Cache030 → ℕ → ℕ → ℕ → Bool → Option ℕ
hit_of c code page shift write = if found c code page shift then permitted write (entry_for c code page) else None

-- the cache after it: a recorded hit is a use, 'even if WP then makes a write miss'
unfoldable pub after_hit : Cache030 → Bool → ℕ → ℕ → ℕ → Cache030
after_hit c recorded code page shift =
    if recorded && found c code page shift then touched c (matching c code page) else c

-- ---- insert
-- 'mark invalid'
abbrev pub dropped : Entry → Entry
dropped e = record { valid = false; code = e.code; page = e.page; base = e.base; wp = e.wp; stamp = e.stamp }

-- all of them marked invalid
abbrev pub all_dropped : List Entry → List Entry
all_dropped l = map dropped l

-- 'A different shift misses, and an insert then empties first.'
unfoldable pub shifted : Cache030 → ℕ → Cache030
shifted c shift =
    if eqb c.shift shift
    then c
    else record { entries = all_dropped c.entries; recent = c.recent; clock = c.clock; shift = shift }

-- 'the smallest stamp, lowest index among equals'
unfoldable pub oldest : List Entry → ℕ
oldest l = first_of (λ (e : Entry). all_of (λ (f : Entry). leb e.stamp f.stamp) l) l

-- 'Insert takes the lowest index of the same key, else the first invalid, else the smallest stamp'
unfoldable pub victim : List Entry → ℕ → ℕ → ℕ
victim l code page =
    if ltb (first_of (matches code page) l) (length l)
    then first_of (matches code page) l
    else if ltb (first_of (λ (e : Entry). not e.valid) l) (length l)
    then first_of (λ (e : Entry). not e.valid) l
    else oldest l

-- 'and always stamps so'
unfoldable pub inserted : Cache030 → ℕ → ℕ → ℕ → ℕ → Bool → Cache030
inserted c code page shift base wp =
    put_at (rested (shifted c shift)) (victim (shifted c shift).entries code page)
    (λ (n : ℕ). record { valid = true; code = code; page = page; base = base; wp = wp; stamp = n })

-- ---- flushes
-- 'Flushes only mark invalid'
abbrev pub drop_if : (Entry → Bool) → Cache030 → Cache030
drop_if p c = with_entries (map (λ (e : Entry). if p e then dropped e else e) c.entries) c

-- 'empties both': this one
unfoldable pub flushed_all : Cache030 → Cache030
flushed_all c = with_entries (all_dropped c.entries) c

-- 'A flush drops entries whose code agrees on the mask's bits ..'
unfoldable pub flushed_code : Cache030 → ℕ → ℕ → Cache030
flushed_code c code mask = drop_if (λ (e : Entry). agrees e.code code mask) c

-- '.. and, for a page, whose page is the address's at the stored shift (shift 0: none).'
unfoldable pub flushed_page : Cache030 → ℕ → ℕ → ℕ → Cache030
flushed_page c code mask address =
    if eqb c.shift 0
    then c
    else drop_if (λ (e : Entry). agrees e.code code mask && eqb e.page (address / 2 ^ c.shift)) c
