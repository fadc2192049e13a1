use Rattle.test.proofs.Testing as law
use Rattle.test.proofs.after.concluded.Goals as goal

pub returns-in-Settled : goal.returns-in-Settled
returns-in-Settled c = law.concludes _ c.in-Settled.is

pub returns-in-By030 : goal.returns-in-By030
returns-in-By030 c = law.concludes_030 _ c.in-By030.is c.status-mmusr.ensures
