use Rattle.definition.specs.Memory.{memory}
use Rattle.host.proofs.Telling as law
use Rattle.host.proofs.mmu_test.Goals as goal

pub returns : goal.returns
returns c =
    law.tests c.args.registers.now c.registers_of-g.ensures (memory c.args.longs.now c.args.base c.args.ranges.now) c.args.code c.args.write c.args.level c.args.address
    c.any_crossed-crossed.ensures c.test-o.ensures c.tell_test.ensures
