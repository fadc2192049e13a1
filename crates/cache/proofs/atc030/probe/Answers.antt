use Rattle.std.proofs.Common.{refl, arith}
use Rattle.std.proofs.Math.Nat.{mod-lt}
use Rattle.cache.proofs.Laws030.{miss_at, hit_at}
use Rattle.cache.proofs.atc030.probe.Goals as goal

pub returns-in_err-i : goal.returns-in_err-i
returns-in_err-i c = rw c.from_residual.ensures (miss_at _ c.told-c030 _ _ _ _ _ (mod-lt _ (omega arith)) refl refl _ c.in_err-i.ensures)

pub returns : goal.returns
returns c =
    let h = c.in_ok-i.ensures in
    hit_at _ c.told-c030 _ _ _ _ _ (mod-lt _ (omega arith)) refl h.0 _ _ h.1 c.permitted.ensures
