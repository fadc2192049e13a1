use Rattle.definition.specs.Memory.{memory}
use Rattle.mmu.proofs.ByValue.{tests}
use Rattle.mmu.proofs.by_value.test.Goals as goal

pub returns : goal.returns
returns c =
    tests c.args.g c.args.code c.args.write c.args.level c.args.address (memory c.args.longs.now c.args.base c.args.ranges.now)
    c.any_crossed-crossed.ensures c.test.ensures
