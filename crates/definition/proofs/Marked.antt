-- Demand 3 of a trace: its records as a replay (Replay.antt), some of whose accesses are watched, and what these print.
use mathlib.Core.Path.{◌≡◌}
use mathlib.Core.List.{List, [], ◌∷◌, ◌++◌, map}
use mathlib.Core.Bool.{Bool, true, false}
use Rattle.definition.specs.Memory.{Memory}
use Rattle.definition.specs.Audit.{audit}
use Rattle.definition.specs.Calls.{access, Line, A, F, L, T, K, N, R}
use Rattle.definition.specs.Trace.{Record, Loads, Calls, Stores, Adds, Malformed, State, memory_of, step_of, first_state, lines_from}
use Rattle.definition.proofs.Replay.{Moment, watched, other}
use Rattle.definition.proofs.Turns.{Turn, under}
use Rattle.definition.specs.declared.Registers.{Registers}
use Rattle.definition.specs.declared.Access.{Access}
use Rattle.definition.specs.declared.Audit.{Audit}

-- ---- what is kept after records, one after the other
-- what the program keeps after them
unfoldable pub kept_after : State → List Record → State
kept_after s [] = s
kept_after s (r ∷ rest) = kept_after (step_of s r).state rest

-- what it keeps after a first part, which warms the caches
abbrev pub warmed : List Record → State
warmed l = kept_after first_state l

-- the audit of what it keeps: under its registers, over its memory
abbrev pub audit_of : State → Audit
audit_of s = audit s.registers (memory_of s) s.caches

-- a record, or an access that is watched
pub data Marked : Type 0 where
  watching : Access → Marked
  plainly : Record → Marked

abbrev pub record_in : Marked → Record
record_in (watching a) = Calls (access a)
record_in (plainly r) = r

-- a call is a moment, with the memory as it stands then; a record of the program's own is none
abbrev pub moment_in : Marked → Memory → List Moment
moment_in (watching a) m = watched a m ∷ []
moment_in (plainly (Calls call)) m = other call m ∷ []
moment_in (plainly (Loads g)) m = []
moment_in (plainly (Stores address value)) m = []
moment_in (plainly (Adds range)) m = []
moment_in (plainly Malformed) m = []

unfoldable pub moments_of : State → List Marked → List Moment
moments_of s [] = []
moments_of s (k ∷ rest) = moment_in k (memory_of s) ++ moments_of (step_of s (record_in k)).state rest

-- the same with the registers as they stand then
abbrev pub turn_in : Marked → State → List Turn
turn_in k s = map (under s.registers) (moment_in k (memory_of s))

unfoldable pub turns_from : State → List Marked → List Turn
turns_from s [] = []
turns_from s (k ∷ rest) = turn_in k s ++ turns_from (step_of s (record_in k)).state rest

abbrev pub is_call : Record → Bool
is_call (Calls call) = true
is_call (Loads g) = false
is_call (Stores address value) = false
is_call (Adds range) = false
is_call Malformed = false

-- 'under the same registers': every call is made under g. What is set before the first call is free
unfoldable pub Under : Registers → State → List Marked → Type 0
Under g s [] = Unit {0}
Under g s (k ∷ rest) = (is_call (record_in k) ≡ true → s.registers ≡ g) × Under g (step_of s (record_in k)).state rest

-- a line with its count left out: a hit has 0, where a walk counts its longs
abbrev pub uncounted : Line → Line
uncounted (A address count) = A address 0
uncounted (F kind cause address count) = F kind cause address 0
uncounted (L count) = L 0
uncounted (T mmusr address count) = T mmusr address 0
uncounted K = K
uncounted N = N
uncounted (R n) = R n

-- what the watched accesses print, in order, of the lines that all of them print
unfoldable pub watched_lines : List Marked → List Line → List Line
watched_lines [] lines = []
watched_lines (k ∷ rest) [] = []
watched_lines (watching a ∷ rest) (line ∷ lines) = uncounted line ∷ watched_lines rest lines
watched_lines (plainly r ∷ rest) (line ∷ lines) = watched_lines rest lines

abbrev pub prints : State → List Marked → List Line
prints s l = watched_lines l (lines_from s (map record_in l))
