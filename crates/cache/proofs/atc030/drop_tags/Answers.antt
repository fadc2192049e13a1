use Rattle.std.proofs.Common.{refl, arith}
use Rattle.std.proofs.lemmas.List.{length-take-le}
use Rattle.cache.specs.Packed.{part}
use Rattle.cache.proofs.Lists.{map_to}
use Rattle.cache.proofs.Parts.{next_first, all_first, tags_put}
use Rattle.cache.proofs.atc030.drop_tags.Goals as goal

pub loop-t-init : goal.loop-t-init
unfolding part map_to
loop-t-init c = refl

pub loop-t-preserved : goal.loop-t-preserved
loop-t-preserved c = next_first _ 22 _ _ _ _ c.loop-t.invariant c.without.ensures

pub returns : goal.returns
returns c =
    let l = c.args.c030.now in
    rw (← all_first _ 22 l _ _ (omega (arith, c.loop-t-test.false, c.loop-t.auto.t-index-end)) c.loop-t.invariant)
    (tags_put l c.loop-t.t-items c.told-c030 (omega (arith, c.loop-t.auto.t-items, length-take-le 22 l (omega arith))))
