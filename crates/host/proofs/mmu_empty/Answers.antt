use Rattle.std.proofs.Common.{refl}
use Rattle.cache.specs.Packed.{part}
use Rattle.cache.specs.Atc030.{cache_of, entries_of}
use Rattle.cache.specs.Atc040.{cache040_of, slots_of}
use Rattle.host.proofs.mmu_empty.Goals as goal

pub returns : goal.returns
unfolding part entries_of cache_of slots_of cache040_of
returns c = refl
