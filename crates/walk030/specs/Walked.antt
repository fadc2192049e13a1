-- What a caller of the 68030 walk reads: the definition's outcome as the code gives it. The count is the number of the longs asked for.
use Rattle.std.specs.Prelude.{length}
use Rattle.definition.specs.Walk030.{Outcome}
use Rattle.walk030.specs.declared.Walked.{Walked}

abbrev pub shown : Outcome → Walked
shown o =
    record {
      end = o.end;
      wp = o.found.wp;
      sup = o.found.sup;
      levels = o.found.levels;
      last = o.found.last;
      asked = length o.found.asked;
    }
