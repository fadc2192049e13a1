-- The checks of a call, and a call's checks where the caller says whether a range is crossed.
use Rattle.std.specs.Prelude.{Bool, false}
use Rattle.definition.specs.Refusal.{Checks}

-- the checks of a library call, in the order in which they are given
abbrev pub checks_of : Bool → Bool → Bool → Bool → Bool → Bool → Checks
checks_of one six five two three four =
    record { one = one; two = two; three = three; four = four; five = five; six = six; eight = false }

-- checks whose third, that a range is crossed, is what the caller says
abbrev pub with_third : Bool → Checks → Checks
with_third three k = checks_of k.one k.six k.five k.two three k.four
