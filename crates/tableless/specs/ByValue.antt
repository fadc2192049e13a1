-- What the flushes promise by value: the definition's answer and next caches, of a pair whose arrays have their lengths.
use Rattle.std.specs.Prelude.{◌≡◌}
use Rattle.definition.specs.Flush.{Flushed as FlushedOf}
use Rattle.definition.specs.declared.Flush.{Flush}
use Rattle.cache.specs.Pair.{pair_of, SizedPair}
use Rattle.cache.specs.declared.CachePair.{CachePair}
use Rattle.tableless.specs.declared.Flushed.{Flushed}

-- what a flush gives, put together
abbrev pub flushed_with : Flush → CachePair → Flushed
flushed_with answer caches = record { answer = answer; caches = caches }

pub record FlushedBy (f : FlushedOf) (r : Flushed) : Type 0 where
  pub answers : r.answer ≡ f.answer
  pub leaves : pair_of r.caches ≡ f.caches
  pub whole : SizedPair r.caches
