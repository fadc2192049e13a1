use Rattle.walk040.proofs.Driving.{begin, few, less, next, ends_lost, ends_absent, ends_page}
use Rattle.walk040.proofs.walk_040.Goals as goal
use Rattle.walk040.proofs.walk_040.Goals.{in-None, in-Some+then-is_invalid, in-Some+else-is_invalid+then-is_page}

pub loop-x-init : goal.loop-x-init
loop-x-init c = begin c.args.tables.now c.args.tc c.args.first c.args.address c.begin-s.result c.begin-s.ensures

pub next-s-requires : goal.next-s-requires
next-s-requires c = few c.args.tables.now c.args.tc c.args.first c.args.address c.loop-x.s c.loop-x.invariant

pub loop-x-smaller : goal.loop-x-smaller
loop-x-smaller c =
    less c.args.tables.now c.args.tc c.args.first c.args.address c.loop-x.s c.loop-x.invariant
    c.wanted-at.ensures c.fetch.ensures c.in-Some.is c.is_invalid.ensures c.if-is_invalid.false c.is_page.ensures c.if-is_page.false c.next-s.ensures

pub loop-x-preserved : goal.loop-x-preserved
loop-x-preserved c =
    next c.args.tables.now c.args.tc c.args.first c.args.address c.loop-x.s c.loop-x.invariant
    c.wanted-at.ensures c.fetch.ensures c.in-Some.is c.is_invalid.ensures c.if-is_invalid.false c.is_page.ensures c.if-is_page.false c.next-s.ensures

pub answer-requires : goal.answer-requires
answer-requires c = few c.args.tables.now c.args.tc c.args.first c.args.address c.loop-x.s c.loop-x.invariant

pub returns : goal.returns
returns c =
    let m = c.args.tables.now in
    elim c.match-fetch.branch [
      | in-None w ↦
          ends_lost m c.args.tc c.args.first c.args.address c.loop-x.s c.loop-x.invariant c.wanted-at.ensures c.fetch.ensures w.in-None.is w.end-is c.answer.ensures
      | in-Some+then-is_invalid w ↦
          ends_absent m c.args.tc c.args.first c.args.address c.loop-x.s c.loop-x.invariant c.wanted-at.ensures c.fetch.ensures w.in-Some.is w.is_invalid.ensures w.if-is_invalid.true w.missing-cause.ensures w.end-is c.answer.ensures
      | in-Some+else-is_invalid+then-is_page w ↦
          ends_page m c.args.tc c.args.first c.args.address c.loop-x.s c.loop-x.invariant c.wanted-at.ensures c.fetch.ensures w.in-Some.is w.is_invalid.ensures w.if-is_invalid.false w.is_page.ensures w.if-is_page.true w.w_with-wp.ensures w.s_of-sup.ensures w.end-is c.answer.ensures
    ]
