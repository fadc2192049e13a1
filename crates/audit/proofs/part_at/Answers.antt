use Rattle.audit.proofs.Steps as law
use Rattle.audit.proofs.part_at.Goals as goal

pub returns-then-i-size : goal.returns-then-i-size
returns-then-i-size c = law.in_part c.args.list.now c.args.start c.args.size c.args.i c.if-i-size.true c.number_at.ensures

pub returns : goal.returns
returns c = law.past_part c.args.list.now c.args.start c.args.size c.args.i c.if-i-size.false
