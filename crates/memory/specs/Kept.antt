-- The ranges that a caller keeps.
use Rattle.std.specs.Prelude.{List, take}
use Rattle.definition.specs.declared.Range.{Range}
use Rattle.memory.specs.declared.kept.RangeList.{RangeList}

-- the first n of the array
abbrev pub ranges_in : RangeList → List Range
ranges_in r = take r.n r.list
