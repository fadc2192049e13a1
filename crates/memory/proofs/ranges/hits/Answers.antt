use Rattle.std.proofs.Common.{arith}
use Rattle.definition.specs.Memory.{touches_of}
use Rattle.definition.specs.declared.Range.{Range}
use Rattle.memory.proofs.Searching.{next_same, ends}
use Rattle.memory.proofs.ranges.hits.Goals as goal

pub loop-i-preserved : goal.loop-i-preserved
loop-i-preserved g c =
    next_same (λ (r : Range). touches_of r.first r.last c.args.at) _ c.loop-i.i c.loop-i.hit c.loop-i.invariant _ _ (omega arith) c.range-r.ensures _ c.touches-hit.ensures

pub returns : goal.returns
returns g c = ends (λ (r : Range). touches_of r.first r.last c.args.at) _ c.loop-i.i c.loop-i.hit c.loop-i.invariant (omega arith)
