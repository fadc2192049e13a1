use Rattle.definition.specs.Memory.{memory}
use Rattle.audit.proofs.Saying as law
use Rattle.audit.proofs.by_value.finding.Goals as goal

pub returns : goal.returns
returns c =
    law.tells c.args.g (memory c.args.longs.now c.args.base c.args.ranges.now) c.args.caches.c030 c.args.caches.c040 c.args.i c.args.write
    c.bad_longs-two.ensures c.any_crossed-three.ensures c.refusal_in-n.ensures c.looked_in-x.ensures c.access_for-a.ensures
    c.bare-plain.ensures c.no_caches-empty.ensures c.translate-t.ensures c.told.ensures
