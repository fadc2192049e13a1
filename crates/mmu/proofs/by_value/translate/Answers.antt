use Rattle.definition.specs.Memory.{memory}
use Rattle.mmu.proofs.ByValue.{translates}
use Rattle.mmu.proofs.by_value.translate.Goals as goal

pub returns : goal.returns
returns c =
    translates c.args.g c.args.a (memory c.args.longs.now c.args.base c.args.ranges.now) c.args.caches
    c.any_crossed-crossed.ensures c.c030_of-c030.ensures c.c040_of-c040.ensures c.translate-o.ensures c.with_pair.ensures
