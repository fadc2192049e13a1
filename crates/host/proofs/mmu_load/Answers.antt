use Rattle.definition.specs.Memory.{memory}
use Rattle.cache.specs.Atc030.{cache_of}
use Rattle.host.proofs.Telling as law
use Rattle.host.proofs.mmu_load.Goals as goal

pub returns : goal.returns
returns c =
    law.loads c.args.registers.now c.registers_of-g.ensures (memory c.args.longs.now c.args.base c.args.ranges.now) c.args.code c.args.write c.args.address (cache_of c.args.c030.now)
    c.any_crossed-crossed.ensures c.load-o.ensures c.tell_load.ensures
