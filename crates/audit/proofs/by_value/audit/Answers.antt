use Rattle.definition.specs.Memory.{memory}
use Rattle.audit.proofs.Driving as law
use Rattle.audit.proofs.by_value.audit.Goals as goal

pub loop-g-init : goal.loop-g-init
loop-g-init c =
    law.begin (memory c.args.longs.now c.args.base c.args.ranges.now) c.args.g c.args.caches.c030 c.args.caches.c040 c.args.from
    c.bad_longs-two.ensures c.any_crossed-three.ensures c.begin_in-s.ensures

pub loop-g-smaller : goal.loop-g-smaller
loop-g-smaller c =
    law.less (memory c.args.longs.now c.args.base c.args.ranges.now) c.args.g c.args.caches.c030 c.args.caches.c040 c.args.from
    c.loop-g.invariant c.is_over.ensures c.if-is_over.false c.next_in-x.ensures c.address_for-address.ensures c.way_for-way.ensures
    c.walk_for-walks.ensures c.took-s.ensures

pub loop-g-preserved : goal.loop-g-preserved
loop-g-preserved c =
    law.next (memory c.args.longs.now c.args.base c.args.ranges.now) c.args.g c.args.caches.c030 c.args.caches.c040 c.args.from
    c.loop-g.invariant c.is_over.ensures c.if-is_over.false c.next_in-x.ensures c.address_for-address.ensures c.way_for-way.ensures
    c.walk_for-walks.ensures c.took-s.ensures

pub returns : goal.returns
returns c =
    law.ends (memory c.args.longs.now c.args.base c.args.ranges.now) c.args.g c.args.caches.c030 c.args.caches.c040 c.args.from
    c.loop-g.invariant c.is_over.ensures c.if-is_over.true c.answer_of-answer.ensures c.said.ensures
