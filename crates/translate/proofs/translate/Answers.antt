use Rattle.definition.specs.Memory.{memory}
use Rattle.cache.specs.Pair.{caches_of}
use Rattle.translate.proofs.Translating as law
use Rattle.translate.proofs.translate.Goals as goal

pub returns : goal.returns
returns c =
    law.translates c.args.g c.args.a (memory c.args.longs.now c.args.base c.args.ranges.now) (caches_of c.args.c030.now c.args.c040.now) c.args.crossed
    c.bad_longs-two.ensures c.plan_access-plan.ensures c.walked-found.ensures c.concluded.ensures
