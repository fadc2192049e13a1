use Rattle.std.proofs.Common.{arith, rules}
use Rattle.std.proofs.Math.Nat.{mod-lt}
use Rattle.cache.proofs.Laws030.{inserted_put}
use Rattle.cache.proofs.atc030.insert.Goals as goal

pub returns : goal.returns
returns c = inserted_put _ _ _ c.fit.ensures _ _ _ _ _ _ _ _ (mod-lt _ (omega arith)) c.key_of-key.ensures c.place-i.ensures.0 c.place-i.ensures.1 (search rules) c.stamp.ensures
