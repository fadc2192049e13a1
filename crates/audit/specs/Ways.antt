-- The walk of an entry's key, if it wants one. This serves the code alone.
use Rattle.std.specs.Prelude.{ℕ}
use Rattle.definition.specs.Memory.{Memory}
use Rattle.definition.specs.Walk030.{every_level, walk030}
use Rattle.definition.specs.Walk040.{walk040}
use Rattle.definition.specs.declared.Registers.{Registers}
use Rattle.walk030.specs.Walked.{shown}
use Rattle.walk040.specs.Walked.{shown040}
use Rattle.audit.specs.declared.walking.Way.{Way}
use Rattle.audit.specs.declared.walking.Way.TheVariants as way
use Rattle.audit.specs.declared.walking.Walks.{Walks}

abbrev pub walks_of : Memory → Registers → ℕ → Way → Walks
walks_of m g address way.Idle = Walks.Idle
walks_of m g address (way.By030 code) = Walks.By030 (shown (walk030 m g address code every_level))
walks_of m g address (way.By040 supervisor) = Walks.By040 (shown040 (walk040 m g address supervisor))
