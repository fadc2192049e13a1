use Rattle.audit.proofs.Saying as law
use Rattle.audit.proofs.telling.code_for.Goals as goal

pub returns-then-g-eq30 : goal.returns-then-g-eq30
returns-then-g-eq30 c = law.code_030 c.args.g c.args.x c.if-g-eq30.true

pub returns : goal.returns
returns c = law.code_040 c.args.g c.args.x c.if-g-eq30.false c.code_of.ensures
