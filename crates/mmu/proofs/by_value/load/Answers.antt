use Rattle.definition.specs.Memory.{memory}
use Rattle.mmu.proofs.ByValue.{loads}
use Rattle.mmu.proofs.by_value.load.Goals as goal

pub returns : goal.returns
returns c =
    loads c.args.g c.args.code c.args.write c.args.address (memory c.args.longs.now c.args.base c.args.ranges.now) c.args.caches
    c.any_crossed-crossed.ensures c.c030_of-c030.ensures c.c040_of-c040.ensures c.load-o.ensures c.load_with_pair.ensures
