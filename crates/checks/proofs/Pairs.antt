-- A pair of caches is its two. Assumes nothing.
use mathlib.Core.Path.{◌≡◌, refl}
use Rattle.definition.specs.Cache030.{Cache030}
use Rattle.definition.specs.Cache040.{Cache040}
use Rattle.definition.specs.Translate.{Caches}
use Rattle.cache.specs.Pair.{pair_with}

pub beside : {x : Cache030} {y : Cache040} (c : Caches) → x ≡ c.c030 → y ≡ c.c040 → pair_with x y ≡ c
beside c p q = rw (p, q) refl
