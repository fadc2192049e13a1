-- What it is to have written a trace's lines.
use Rattle.std.specs.Prelude.{ℕ, ◌+◌, ◌≤◌, ◌<◌, ◌≡◌, List, ◌++◌, eqb, length, take, Result, Ok, Err}
use Rattle.std.specs.Prelude.{if◌then◌else◌}
use Rattle.definition.specs.Trace.{malformed_line, text, ending}
use Rattle.replay.specs.declared.run.Why.{Why}
use Rattle.replay.specs.declared.run.Why.TheVariants as why
use Rattle.whole.specs.declared.NoRoom.{NoRoom}

-- the lines are at the start of the output; or they and one line more do not fit
abbrev pub Shows : List ℕ → List ℕ → Result ℕ NoRoom → Type 0
Shows lines out (Ok n) = (n ≤ length out) × (take n out ≡ lines)
Shows lines out (Err _) = length out < length lines + 44

-- refusal 7
abbrev pub refused : List ℕ
refused = text malformed_line

-- the last line, where `left` bytes hold no whole record
abbrev pub finished : ℕ → List ℕ
finished left = if eqb left 0 then ending else refused

-- the last line after a run: behind the first `at` bytes, which the run wrote
abbrev pub Closes : Why → ℕ → List ℕ → ℕ → List ℕ → Result ℕ NoRoom → Type 0
Closes why.Input left old at out r = Shows (take at old ++ finished left) out r
Closes why.Malformed left old at out r = Shows (take at old ++ refused) out r
Closes why.Room left old at out r = r ≡ Err (record {})
