-- What a call is given and what it answers: the structs and enums of src/lib.rt, which every crate shares.
pub use Rattle.definition.specs.declared.Root.{Root}
pub use Rattle.definition.specs.declared.Registers.{Registers}
pub use Rattle.definition.specs.declared.Access.{Access}
pub use Rattle.definition.specs.declared.Range.{Range}
pub use Rattle.definition.specs.declared.End.{End}
pub use Rattle.definition.specs.declared.End.TheVariants.{Page, Invalid, LevelStop, BusError, Config}
pub use Rattle.definition.specs.declared.End040.{End040}
pub use Rattle.definition.specs.declared.End040.TheVariants.{Resident, Absent, Lost}
pub use Rattle.definition.specs.declared.FaultKind.{FaultKind}
pub use Rattle.definition.specs.declared.FaultCause.{FaultCause}
pub use Rattle.definition.specs.declared.Translation.{Translation}
pub use Rattle.definition.specs.declared.Load.{Load}
pub use Rattle.definition.specs.declared.Test.{Test}
pub use Rattle.definition.specs.declared.Probe.{Probe}
pub use Rattle.definition.specs.declared.Flush.{Flush}
pub use Rattle.definition.specs.declared.Audit.{Audit}
pub use Rattle.definition.specs.declared.Finding.{Finding}
