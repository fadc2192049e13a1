use Rattle.std.proofs.Common.{arith}
use Rattle.trace.proofs.Seeing.{seen_none, seen_access, seen_other}
use Rattle.trace.proofs.look.Goals as goal

pub returns-in_default : goal.returns-in_default
returns-in_default c = seen_none _ c.in_default.len_below

pub returns-in-2 : goal.returns-in-2
returns-in-2 c = seen_access _ c.in-len1-up.len_at_least c.in-2.is c.access_of.ensures

pub returns-in_default-kind : goal.returns-in_default-kind
returns-in_default-kind c = seen_other _ c.in-len1-up.len_at_least (λ e. omega (arith, e))
