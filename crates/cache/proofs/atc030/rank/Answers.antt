use Rattle.std.proofs.Common.{arith, rules}
use Rattle.cache.specs.Atc030.{ranked}
use Rattle.cache.proofs.Parts.{parts_of, next_stamp, all_stamps}
use Rattle.cache.proofs.Lists.{map_to_none}
use Rattle.cache.proofs.atc030.rank.Goals as goal

pub loop-i-init : goal.loop-i-init
loop-i-init c = rw map_to_none (parts_of _ c.told-c030)

pub loop-i-preserved : goal.loop-i-preserved
loop-i-preserved c = next_stamp _ _ _ _ _ _ _ _ _ _ (search rules) c.loop-i.invariant c.smaller.ensures

pub returns : goal.returns
unfolding ranked
returns c = all_stamps _ _ _ _ _ _ _ _ _ c.told-c030 (omega arith) c.loop-i.invariant
