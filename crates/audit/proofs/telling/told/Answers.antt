use Rattle.audit.proofs.Saying as law
use Rattle.audit.proofs.telling.told.Goals as goal

pub returns-then-n-ne0 : goal.returns-then-n-ne0
returns-then-n-ne0 c = law.told_refused c.args.g c.args.x c.args.write c.args.n c.args.t.answer c.if-n-ne0.true

pub returns : goal.returns
returns c =
    law.told_says c.args.g c.args.x c.args.write c.args.n c.args.t.answer c.if-n-ne0.false
    c.address_for-address.ensures c.code_for-code.ensures c.hit_for-cached.ensures
