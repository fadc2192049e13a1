use Rattle.audit.proofs.Saying as law
use Rattle.audit.proofs.telling.hit_for.Goals as goal

pub returns-then-x-ne1 : goal.returns-then-x-ne1
returns-then-x-ne1 c = law.hit_none c.args.g c.args.x c.args.write c.if-x-ne1.true

pub returns-then-g-eq30 : goal.returns-then-g-eq30
returns-then-g-eq30 c = law.hit_030 c.args.g c.args.x c.args.write c.if-x-ne1.false c.if-g-eq30.true c.permitted.ensures

pub returns : goal.returns
returns c = law.hit_040 c.args.g c.args.x c.args.write c.if-x-ne1.false c.if-g-eq30.false c.permitted-2.ensures
