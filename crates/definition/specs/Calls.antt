-- The calls as one type, and the line that document 01 gives each of their answers ('The trace and the program').
use Rattle.std.specs.Prelude.{ℕ, Bool, length}
use Rattle.definition.specs.Answers.{kind_number, cause_number}
use Rattle.definition.specs.Memory.{Memory}
use Rattle.definition.specs.Translate.{Caches, Translated, translate}
use Rattle.definition.specs.Load.{Loaded, load}
use Rattle.definition.specs.Test.{Tested, test}
use Rattle.definition.specs.Probe.{probe}
use Rattle.definition.specs.Flush.{Flushed, flush_all, flush_code, flush_page, flush_frame}
use Rattle.definition.specs.Types.{Registers, Access, Translation, Load, Test, Probe, Flush}

-- translate; load with code, write, address; test with code, write, level, address; probe with the CPU's own state, instruction, write, address; the flushes
pub data Call : Type 0 where
  access : Access → Call
  loading : ℕ → Bool → ℕ → Call
  testing : ℕ → Bool → ℕ → ℕ → Call
  probing : Bool → Bool → Bool → ℕ → Call
  flushing_all : Call
  flushing_code : ℕ → ℕ → Call
  flushing_page : ℕ → ℕ → ℕ → Call
  flushing_frame : ℕ → Call

-- 'A address count, or F kind cause address count'; 'L count'; 'T MMUSR address count'; 'K'; 'N'; 'A refusal prints R and its number'
pub data Line : Type 0 where
  A : ℕ → ℕ → Line
  F : ℕ → ℕ → ℕ → ℕ → Line
  L : ℕ → Line
  T : ℕ → ℕ → ℕ → Line
  K : Line
  N : Line
  R : ℕ → Line

-- each answer's number and values, by its cases
abbrev pub translation_line : ℕ → Translation → Line
translation_line count (Translation.Address address) = A address count
translation_line count (Translation.Fault kind cause address) = F (kind_number kind) (cause_number cause) address count
translation_line count (Translation.Refused n) = R n

-- 'L count'
abbrev pub load_line : ℕ → Load → Line
load_line count Load.Loaded = L count
load_line count (Load.Refused n) = R n

-- 'T MMUSR address count'
abbrev pub test_line : ℕ → Test → Line
test_line count (Test.Status mmusr address) = T mmusr address count
test_line count (Test.Refused n) = R n

-- 'A address 0, or N'
abbrev pub probe_line : Probe → Line
probe_line (Probe.Address address) = A address 0
probe_line Probe.Nothing = N
probe_line (Probe.Refused n) = R n

-- 'K'
abbrev pub flush_line : Flush → Line
flush_line Flush.Flushed = K
flush_line (Flush.Refused n) = R n

-- what a call gives: its line, and the next caches
pub record Called : Type 0 where
  pub line : Line
  pub caches : Caches

-- by its parts
abbrev pub called : Line → Caches → Called
called line caches = record { line = line; caches = caches }

-- each call's result so: the count is the number of the longs asked for
abbrev pub of_translated : Translated → Called
of_translated t = called (translation_line (length t.asked) t.answer) t.caches

-- a load's
abbrev pub of_loaded : Loaded → Called
of_loaded l = called (load_line (length l.asked) l.answer) l.caches

-- a test's, which 'touches no cache'
abbrev pub of_tested : Caches → Tested → Called
of_tested c t = called (test_line (length t.asked) t.answer) c

-- a flush's
abbrev pub of_flushed : Flushed → Called
of_flushed f = called (flush_line f.answer) f.caches

-- any call, under registers, over a memory, from caches
unfoldable pub calling : Registers → Memory → Caches → Call → Called
calling g m c (access a) = of_translated (translate g a m c)
calling g m c (loading code write address) = of_loaded (load g code write address m c)
calling g m c (testing code write level address) = of_tested c (test g code write level address m)
calling g m c (probing own instruction write address) = called (probe_line (probe g own instruction write address c)) c
calling g m c flushing_all = of_flushed (flush_all c)
calling g m c (flushing_code code mask) = of_flushed (flush_code code mask c)
calling g m c (flushing_page code mask address) = of_flushed (flush_page code mask address c)
calling g m c (flushing_frame frame) = of_flushed (flush_frame frame c)
