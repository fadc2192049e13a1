use Rattle.std.proofs.Common.{lt-ltb, le-ltb}
use Rattle.cache.specs.Atc030.{cache_of}
use Rattle.cache.proofs.atc030.bad_cache.Goals as goal

pub returns-then-c030-gt21 : goal.returns-then-c030-gt21
unfolding cache_of
returns-then-c030-gt21 c = rw (lt-ltb _ _ c.if-c030-gt21.true)

pub returns-else-c030-gt21 : goal.returns-else-c030-gt21
unfolding cache_of
returns-else-c030-gt21 c = rw (le-ltb _ _ c.if-c030-gt21.false)
