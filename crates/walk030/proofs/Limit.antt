-- The most levels that a call hands the walk are the definition's. Assumes nothing.
use Rattle.std.proofs.Common.{◌≡◌, refl}
use Rattle.definition.specs.Walk030.{every_level}
use Rattle.walk030.specs.declared.TheConstants.{EVERY_LEVEL}

pub every_level_is : EVERY_LEVEL ≡ every_level
every_level_is = refl
