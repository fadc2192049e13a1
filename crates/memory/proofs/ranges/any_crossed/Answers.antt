use Rattle.std.proofs.Common.{arith, refl}
use Rattle.definition.specs.Refusal.{crossed}
use Rattle.memory.proofs.Searching.{next_same, ends}
use Rattle.memory.proofs.ranges.any_crossed.Goals as goal

pub loop-i-preserved : goal.loop-i-preserved
loop-i-preserved g c =
    next_same crossed _ c.loop-i.i c.loop-i.found c.loop-i.invariant _ _ (omega arith) c.range-r.ensures _ refl

pub returns : goal.returns
returns g c = ends crossed _ c.loop-i.i c.loop-i.found c.loop-i.invariant (omega arith)
