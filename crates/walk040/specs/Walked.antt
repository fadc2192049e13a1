-- What a caller of the 68040 walk reads: the definition's outcome as the code gives it. The count is the number of the longs asked for.
use Rattle.std.specs.Prelude.{length}
use Rattle.definition.specs.Walk040.{Outcome040}
use Rattle.walk040.specs.declared.Walked040.{Walked040}

abbrev pub shown040 : Outcome040 → Walked040
shown040 o = record { end = o.end; asked = length o.asked }
