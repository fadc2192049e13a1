use Rattle.definition.specs.Memory.{memory}
use Rattle.cache.specs.Pair.{caches_of}
use Rattle.host.proofs.Telling as law
use Rattle.host.proofs.mmu_translate.Goals as goal

pub returns : goal.returns
returns c =
    law.translates c.args.registers.now c.registers_of-g.ensures (memory c.args.longs.now c.args.base c.args.ranges.now) c.args.flags c.args.code c.args.address (caches_of c.args.c030.now c.args.c040.now)
    c.access_of-a.ensures c.any_crossed-crossed.ensures c.translate-o.ensures c.tell_translation.ensures
