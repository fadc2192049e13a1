-- A list's answer as the host is told it.
use Rattle.std.specs.Prelude.{ℕ, ◌≡◌, List, [], ◌∷◌, ◌++◌, map, length, drop}
use Rattle.definition.specs.List.{Listing}
use Rattle.definition.specs.declared.Listed.{Listed}
use Rattle.definition.specs.declared.Listed.TheVariants as listed
use Rattle.list.specs.Numbers.{number_of}

-- a list: 0 all are listed, and how many; 1 so many, and the address to go on from; 2 a refusal
abbrev pub list_numbers : Listed → List ℕ
list_numbers (listed.All count) = 0 ∷ count ∷ 0 ∷ []
list_numbers (listed.More count next) = 1 ∷ count ∷ next ∷ []
list_numbers (listed.Refused n) = 2 ∷ n ∷ 0 ∷ []

-- its answer, and its ranges as numbers at the start of the output; behind them the output is as it was
pub record ListedAs (l : Listing) (old new answer : List ℕ) : Type 0 where
  pub answers : answer ≡ list_numbers l.answer
  pub wrote : new ≡ map number_of l.ranges ++ drop (length l.ranges) old
