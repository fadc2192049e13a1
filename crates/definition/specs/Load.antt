-- Document 01, 'The 68030 walk': PLOAD.
use Rattle.std.specs.Prelude.{ℕ, List, [], Bool, true, false, not, if◌then◌else◌, Option, Some, None}
use Rattle.definition.specs.Registers.{on}
use Rattle.definition.specs.Memory.{Memory}
use Rattle.definition.specs.Transparent.{transparent030}
use Rattle.definition.specs.Walk030.{shift_of}
use Rattle.definition.specs.Cache030.{Cache030, flushed_page}
use Rattle.definition.specs.Refusal.{Checks, checks, no_family, bad_base, bad_range, bad_cache, above_seven, not030, unless}
use Rattle.definition.specs.Translate.{Caches, Searched, search030}
use Rattle.definition.specs.Types.{Registers, Load}

-- an answer, the longs asked for, and the next caches
pub record Loaded : Type 0 where
  pub answer : Load
  pub asked : List ℕ
  pub caches : Caches

-- with the next 68030 cache; the 68040's stays
abbrev pub loaded : Load → List ℕ → Cache030 → Caches → Loaded
loaded answer asked cache c = record { answer = answer; asked = asked; caches = record { c030 = cache; c040 = c.c040 } }

-- 'stops if there is no page shift or TT0 or TT1 matches'
abbrev pub stopped : Option ℕ → Bool → Bool
stopped None tt = true
stopped (Some shift) tt = tt

-- 'searches and caches as above with the raw code': the search's address or fault is left out; the longs asked for and the cache are its own
abbrev pub searched_for : Searched → Caches → Loaded
searched_for s c = loaded Load.Loaded s.asked s.cache c

-- after 'drops the page (mask 7)', whose cache this is
abbrev pub after_drop : Registers → Memory → ℕ → Bool → ℕ → Cache030 → Caches → Loaded
after_drop g m code write address cache c =
    if stopped (shift_of g.tc) (transparent030 g address code write)
    then loaded Load.Loaded [] cache c
    else searched_for (search030 g m cache code address write) c

-- 'PLOAD, only with an enabled PMMU'
unfoldable pub load_in_order : Registers → ℕ → Bool → ℕ → Memory → Caches → Loaded
load_in_order g code write address m c =
    if not (on g)
    then loaded Load.Loaded [] c.c030 c
    else after_drop g m code write address (flushed_page c.c030 code 7 address) c

-- 1, 6, 5, 2, 3 and 4 can apply
abbrev pub load_checks : Registers → ℕ → Memory → Caches → Checks
load_checks g code m c =
    checks (no_family g.family) (bad_base m) (bad_range m) (bad_cache c.c030) (above_seven code) (not030 g.family) false

-- the call
unfoldable pub load : Registers → ℕ → Bool → ℕ → Memory → Caches → Loaded
load g code write address m c =
    unless (load_checks g code m c)
    (λ (n : ℕ). loaded (Load.Refused n) [] c.c030 c) (load_in_order g code write address m c)
