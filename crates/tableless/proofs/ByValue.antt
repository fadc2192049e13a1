-- From what a flush in place promises to what it promises by value. Assumes nothing.
use Prim.Native.Nat.{ℕ}
use mathlib.Core.Path.{◌≡◌}
use mathlib.Core.List.{List}
use lib.ListN.{length}
use Rattle.definition.specs.Flush.{Flushed as FlushedOf}
use Rattle.definition.specs.declared.Flush.{Flush}
use Rattle.cache.specs.Atc030.{cache_of}
use Rattle.cache.specs.Atc040.{cache040_of}
use Rattle.cache.specs.declared.CachePair.{CachePair}
use Rattle.flush.specs.Flushed.{FlushedIn030, FlushedIn040}
use Rattle.tableless.specs.ByValue.{flushed_with, FlushedBy}

-- a pair of arrays
abbrev pub arrays : List ℕ → List ℕ → CachePair
arrays c030 c040 = record { c030 = c030; c040 = c040 }

module _ {f : FlushedOf} {answer : Flush} {c030 c040 : List ℕ} where
  pub flushed_030 : FlushedIn030 f (cache040_of c040) answer c030 → length c040 ≡ 128 → FlushedBy f (flushed_with answer (arrays c030 c040))
  flushed_030 k z = record { answers = k.answers; leaves = k.leaves; whole = record { sized = k.sized; sized040 = z } }

  pub flushed_040 : FlushedIn040 f (cache_of c030) answer c040 → length c030 ≡ 69 → FlushedBy f (flushed_with answer (arrays c030 c040))
  flushed_040 k z = record { answers = k.answers; leaves = k.leaves; whole = record { sized = z; sized040 = k.sized } }
