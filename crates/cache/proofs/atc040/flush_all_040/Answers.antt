use Rattle.std.proofs.Common.{refl, arith}
use Rattle.std.proofs.lemmas.List.{length-take-le}
use Rattle.cache.specs.Packed.{part}
use Rattle.cache.proofs.Lists.{map_to}
use Rattle.cache.proofs.Parts.{next_first, all_first, keys_put}
use Rattle.cache.proofs.Slots.{flushed_all_040}
use Rattle.cache.proofs.atc040.flush_all_040.Goals as goal

pub loop-k-init : goal.loop-k-init
unfolding part map_to
loop-k-init c = refl

pub loop-k-preserved : goal.loop-k-preserved
loop-k-preserved c = next_first _ 64 _ _ _ _ c.loop-k.invariant refl

pub returns : goal.returns
returns c =
    let l = c.args.c040.now in
    flushed_all_040 l c.told-c040 _
    (rw (← all_first _ 64 l _ _ (omega (arith, c.loop-k-test.false, c.loop-k.auto.k-index-end)) c.loop-k.invariant)
    (keys_put l c.loop-k.k-items c.told-c040 (omega (arith, c.loop-k.auto.k-items, length-take-le 64 l (omega arith)))))
