-- From what the lister promises to what the host is told. Assumes nothing.
use Prim.Native.Nat.{ℕ}
use mathlib.Core.Path.{◌≡◌, ap, subst, ◌∙◌}
use mathlib.Core.List.{List}
use lib.ListN.{length}
use Rattle.definition.specs.Memory.{Memory}
use Rattle.definition.specs.List.{list}
use Rattle.definition.specs.declared.Listed.{Listed}
use Rattle.definition.specs.declared.Registers.{Registers}
use Rattle.list.specs.Numbers.{ListedTo}
use Rattle.numbers.specs.Numbers.{registers_of}
use Rattle.host_list.specs.Numbers.{list_numbers, ListedAs}

-- a list's answer as numbers, under the registers that the host's numbers are
pub listed_as : (ns : List ℕ) (g : Registers) (m : Memory) (code from : ℕ) (old new answer : List ℕ) (r : Listed) → g ≡ registers_of ns
    → ListedTo (list g m code from (length old)) old new r → answer ≡ list_numbers r → ListedAs (list (registers_of ns) m code from (length old)) old new answer
listed_as ns g m code from old new answer r is h e =
    subst (λ (x : Registers). ListedAs (list x m code from (length old)) old new answer) is
    (record { answers = e ∙ ap list_numbers h.answer; wrote = h.wrote })
