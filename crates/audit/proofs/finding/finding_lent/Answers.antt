use Rattle.definition.specs.Memory.{memory}
use Rattle.audit.proofs.Saying as law
use Rattle.audit.proofs.finding.finding_lent.Goals as goal

pub returns : goal.returns
returns c =
    law.tells c.args.g (memory c.args.longs.now c.args.base c.args.ranges.now) c.args.c030.now c.args.c040.now c.args.i c.args.write
    c.bad_longs-two.ensures c.any_crossed-three.ensures c.refusal-n.ensures c.looked_at-x.ensures c.access_for-a.ensures
    c.bare-plain.ensures c.no_caches-empty.ensures c.translate-t.ensures c.told.ensures
