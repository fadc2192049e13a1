-- What the code's line means: the definition's line, case by case; and what it is to write bytes.
use Rattle.std.specs.Prelude.{ℕ, ◌+◌, ◌≤◌, ◌<◌, ◌≡◌, Bool, true, false, List, length}
use Rattle.std.proofs.lemmas.List.Edits.{sets}
use Rattle.definition.specs.Calls as calls
use Rattle.trace.specs.declared.Line.{Line}
use Rattle.trace.specs.declared.Line.TheVariants as line'

abbrev pub line_in : Line → calls.Line
line_in (line'.A address count) = calls.A address count
line_in (line'.F kind cause address count) = calls.F kind cause address count
line_in (line'.L count) = calls.L count
line_in (line'.T mmusr address count) = calls.T mmusr address count
line_in line'.K = calls.K
line_in line'.N = calls.N
line_in (line'.R number) = calls.R number

-- `old` becomes `new` by `bytes`, at most `most` of them, stored one after the other from `at` on; `next` is the place after them
pub record Wrote (most : ℕ) (old : List ℕ) (at : ℕ) (bytes new : List ℕ) (next : ℕ) : Type 0 where
  pub stores : new ≡ sets old at bytes
  pub ends : next ≡ at + length bytes
  pub short : length bytes ≤ most

-- r says whether n bytes fit from `at` on, where there are `size`
pub record RoomFor (size at n : ℕ) (r : Bool) : Type 0 where
  pub room : r ≡ true → at + n ≤ size
  pub full : r ≡ false → size < at + n

-- bytes are written where `most` have room from `at` on; where they have none, nothing is written and the place stays
pub record Put (most : ℕ) (old : List ℕ) (at : ℕ) (bytes new : List ℕ) (next : ℕ) : Type 0 where
  pub room : at + most ≤ length old → Wrote most old at bytes new next
  pub none : length old < at + most → (new ≡ old) × (next ≡ at)
