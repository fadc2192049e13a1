use Rattle.std.proofs.Common.{refl}
use Rattle.cache.specs.Packed.{part}
use Rattle.cache.specs.Atc030.{entries_of, cache_of}
use Rattle.cache.specs.Atc040.{slots_of, cache040_of}
use Rattle.cache.proofs.CachePair.empty.Goals as goal

pub returns : goal.returns
unfolding part entries_of cache_of slots_of cache040_of
returns c = refl
