use Rattle.std.proofs.Common.{refl}
use Rattle.definition.specs.Walk030.{widths_of}
use Rattle.memory.proofs.page030.widths.Goals as goal

pub returns : goal.returns
unfolding widths_of
returns c = refl
