use Rattle.std.proofs.Common.{rules}
use Rattle.search.specs.Searched.{permitted_of}
use Rattle.search.proofs.permitted.Goals as goal

pub returns-then-forbidden : goal.returns-then-forbidden
unfolding permitted_of
returns-then-forbidden c = rw c.if-forbidden.true c.fault.ensures

pub returns-then-write-wp : goal.returns-then-write-wp
unfolding permitted_of
returns-then-write-wp c = search rules

pub returns : goal.returns
unfolding permitted_of
returns c = search rules
