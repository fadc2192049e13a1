-- The two caches that two arrays are, and that a pair by value is.
use Rattle.std.specs.Prelude.{ℕ, ◌≡◌, List, length}
use Rattle.definition.specs.Cache030.{Cache030}
use Rattle.definition.specs.Cache040.{Cache040}
use Rattle.definition.specs.Translate.{Caches}
use Rattle.cache.specs.declared.CachePair.{CachePair}
use Rattle.cache.specs.Atc030.{cache_of}
use Rattle.cache.specs.Atc040.{cache040_of}

-- a 68030 cache beside any 68040 cache
abbrev pub pair_with : Cache030 → Cache040 → Caches
pair_with c k = record { c030 = c; c040 = k }

abbrev pub caches_of : List ℕ → List ℕ → Caches
caches_of c030 c040 = pair_with (cache_of c030) (cache040_of c040)

abbrev pub pair_of : CachePair → Caches
pair_of p = caches_of p.c030 p.c040

-- the lengths that the arrays' types give them
pub record SizedAll (c030 c040 : List ℕ) : Type 0 where
  pub sized : length c030 ≡ 69
  pub sized040 : length c040 ≡ 128

abbrev pub SizedPair : CachePair → Type 0
SizedPair p = SizedAll p.c030 p.c040
