-- The numbers of the fault kinds and causes.
use Rattle.std.specs.Prelude.{ℕ}
use Rattle.definition.specs.Types.{FaultKind, FaultCause}

-- 'Fault numbers count from 0 in `mod.rs` order.'
abbrev pub kind_number : FaultKind → ℕ
kind_number FaultKind.ConfigurationError = 0
kind_number FaultKind.IllegalOperation = 1
kind_number FaultKind.AccessLevelViolation = 2
kind_number FaultKind.BusError = 3

-- the causes likewise
abbrev pub cause_number : FaultCause → ℕ
cause_number FaultCause.PointerA = 0
cause_number FaultCause.PointerB = 1
cause_number FaultCause.Indirect = 2
cause_number FaultCause.PageFault = 3
cause_number FaultCause.WriteProtect = 4
cause_number FaultCause.SupervisorProtect = 5
cause_number FaultCause.TableWalkBusError = 6
cause_number FaultCause.AccessBusError = 7
