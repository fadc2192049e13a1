-- What the flushes in place promise: the answer, and the caches that the arrays are at exit.
use Rattle.std.specs.Prelude.{ℕ, ◌≡◌, List, length}
use Rattle.definition.specs.Cache030.{Cache030}
use Rattle.definition.specs.Cache040.{Cache040}
use Rattle.definition.specs.Flush.{Flushed}
use Rattle.definition.specs.declared.Flush.{Flush}
use Rattle.cache.specs.Atc030.{cache_of}
use Rattle.cache.specs.Atc040.{cache040_of}
use Rattle.cache.specs.Pair.{caches_of, SizedAll, pair_with}

-- a flush's answer, with the arrays after it
pub record FlushedIn (f : Flushed) (answer : Flush) (a b : List ℕ) : Type 0 where
  pub answers : answer ≡ f.answer
  pub leaves : caches_of a b ≡ f.caches
  pub whole : SizedAll a b

-- the same of one cache alone: the other one stays
pub record FlushedIn030 (f : Flushed) (k : Cache040) (answer : Flush) (a : List ℕ) : Type 0 where
  pub answers : answer ≡ f.answer
  pub leaves : pair_with (cache_of a) k ≡ f.caches
  pub sized : length a ≡ 69

pub record FlushedIn040 (f : Flushed) (c : Cache030) (answer : Flush) (b : List ℕ) : Type 0 where
  pub answers : answer ≡ f.answer
  pub leaves : pair_with c (cache040_of b) ≡ f.caches
  pub sized : length b ≡ 128
