-- What the lister's two functions carry: the output so far, and what is asked of the node they stand at. This serves the code alone; the meaning is
-- `List` of `definition`.
use Rattle.std.specs.Prelude.{ℕ, ◌+◌, ◌-◌, ◌%◌, ◌^◌, ◌<◌, ◌≤◌, ◌≡◌, List, [], ◌∷◌, Bool, true, false, length, get_or, set, drop, ltb, eqb}
use Rattle.std.specs.Prelude.{if◌then◌else◌, Option, Some, None, is_some}
use Rattle.definition.specs.Memory.{Memory}
use Rattle.definition.specs.Walk030.{used, sum_of}
use Rattle.definition.specs.Refusal.{refusal_of}
use Rattle.definition.specs.List.{list_checks, not_taken}
use Rattle.definition.specs.declared.Registers.{Registers}
use Rattle.definition.specs.declared.Mapped.{Mapped}
use Rattle.definition.specs.declared.Node.{Node}
use Rattle.definition.specs.declared.Listed.{Listed}
use Rattle.definition.specs.declared.Listed.TheVariants as listed
use Rattle.list.specs.Numbers.{number_of}
use Rattle.list.specs.declared.writing.Progress.{Progress}

-- ---- writing
-- the output, how many are written, and the first address of one that found no room
pub record Written : Type 0 where
  pub out : List ℕ
  pub count : ℕ
  pub next : Option ℕ

abbrev pub written : List ℕ → Progress → Written
written out s = record { out = out; count = s.count; next = s.next }

abbrev pub begun : List ℕ → Written
begun out = record { out = out; count = 0; next = None }

-- one range more, where there is room
unfoldable pub put : Mapped → Written → Written
put x w =
    if is_some w.next
    then w
    else if ltb w.count (length w.out)
    then record { out = set w.out w.count (number_of x); count = w.count + 1; next = None }
    else record { out = w.out; count = w.count; next = Some x.first }

unfoldable pub puts : List Mapped → Written → Written
puts [] w = w
puts (x ∷ xs) w = puts xs (put x w)

-- what is answered in the end
abbrev pub told : ℕ → Option ℕ → Listed
told n None = listed.All n
told n (Some next) = listed.More n next

abbrev pub answer_of : Progress → Listed
answer_of s = told s.count s.next

-- ---- a table or an entry, with the levels from `level` on below it: the widths are of four bits, all of them fit an address, and its stretch is aligned
pub record Placed (ws : List ℕ) (level : ℕ) (n : Node) : Type 0 where
  pub narrow : (k : ℕ) → get_or ws k 0 < 16
  pub fits : n.consumed + sum_of (used (drop level ws)) ≤ 32
  pub low : n.first < 2 ^ 32
  pub aligned : n.first % 2 ^ (32 - n.consumed) ≡ 0

-- ---- the refusals
-- the number of the first that applies, and 0 where none does
abbrev pub refusal : Registers → Memory → ℕ → ℕ
refusal g m code =
    if eqb (refusal_of (list_checks g m code)) 0 then (if not_taken g code then 9 else 0) else refusal_of (list_checks g m code)
