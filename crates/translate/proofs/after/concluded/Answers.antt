use Rattle.std.proofs.Common.{refl, rules}
use Rattle.translate.proofs.Concluding as law
use Rattle.translate.proofs.after.concluded.Goals as goal

pub returns-in-Settled : goal.returns-in-Settled
returns-in-Settled c = law.concludes c.args.g c.args.a (search rules) c.in-Settled.is refl refl

pub returns-in-By030 : goal.returns-in-By030
returns-in-By030 c = law.concludes_030 c.args.g c.args.a (search rules) c.in-By030.is c.by_030.ensures

pub returns-in-By040 : goal.returns-in-By040
returns-in-By040 c = law.concludes_040 c.args.g c.args.a (search rules) c.in-By040.is c.by_040.ensures
