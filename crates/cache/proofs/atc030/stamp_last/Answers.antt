use Rattle.std.proofs.Common.{eq-eqb}
use Rattle.cache.specs.Atc030.{used_stamps}
use Rattle.cache.proofs.Laws030.{ranked_put}
use Rattle.cache.proofs.atc030.stamp_last.Goals as goal

pub returns : goal.returns
unfolding used_stamps
returns c = rw (eq-eqb _ _ c.requires.last) (ranked_put c.rank.ensures c.put.ensures)
