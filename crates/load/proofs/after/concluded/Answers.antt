use Rattle.load.proofs.Loading as law
use Rattle.load.proofs.after.concluded.Goals as goal

pub returns-in-Settled : goal.returns-in-Settled
returns-in-Settled c = law.concludes _ _ _ c.in-Settled.is c.told-c030

pub returns-in-By030 : goal.returns-in-By030
returns-in-By030 c = law.concludes_030 _ _ _ _ c.in-By030.is c.end_030.ensures
