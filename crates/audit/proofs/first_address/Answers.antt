use Rattle.audit.proofs.Steps as law
use Rattle.audit.proofs.first_address.Goals as goal

pub returns : goal.returns
returns c = law.none_left c.args.page c.args.shift c.if-shift-lt32.false
