use Rattle.definition.specs.Memory.{memory}
use Rattle.audit.proofs.Driving.{Turn, left}
use Rattle.audit.proofs.by_value.audit.Given as goal

-- what the audit answers is what the entries from the next one on answer
abbrev pub invariant-loop-g : goal.invariant-loop-g
invariant-loop-g l = Turn (memory l.longs l.base l.ranges) l.g l.caches.c030 l.caches.c040 l.from l.s

-- how many entries are left
abbrev pub decreases-loop-g : goal.decreases-loop-g
decreases-loop-g l = left (memory l.longs l.base l.ranges) l.g l.caches.c030 l.caches.c040 l.from l.s
