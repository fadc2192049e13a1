-- Calls in place, one after the other: each link is what one call's contract promises of the two arrays at its entry and at its exit.
-- `translate`, `load` and `test` promise it with the true word of check 3 (`given_true` of each), so a chain speaks of callers that say it rightly.
use Rattle.std.specs.Prelude.{ℕ, Bool, List, [], ◌∷◌}
use Rattle.definition.specs.Memory.{Memory}
use Rattle.definition.specs.Translate.{Caches, translate}
use Rattle.definition.specs.Load.{load}
use Rattle.definition.specs.Flush.{flush_all, flush_code, flush_page, flush_frame}
use Rattle.definition.specs.Calls as calls
use Rattle.definition.specs.Calls.{Call}
use Rattle.definition.proofs.Replay.{Moment, watched, other}
use Rattle.definition.proofs.Turns.{Turn, under, turns_of}
use Rattle.definition.specs.declared.Registers.{Registers}
use Rattle.definition.specs.declared.Access.{Access}
use Rattle.definition.specs.declared.Translation.{Translation}
use Rattle.definition.specs.declared.Load.{Load}
use Rattle.definition.specs.declared.Flush.{Flush}
use Rattle.cache.specs.Atc030.{cache_of}
use Rattle.cache.specs.Atc040.{cache040_of}
use Rattle.translate.specs.Stages.{shown_translated}
use Rattle.load.specs.Loaded.{shown_loaded, LoadedIn}
use Rattle.cache.specs.Pair.{caches_of}
use Rattle.translate.specs.InPlace.{AnsweredIn}
use Rattle.flush.specs.Flushed.{FlushedIn, FlushedIn030, FlushedIn040}

-- the arrays that a caller keeps
pub record Arrays : Type 0 where
  pub c030 : List ℕ
  pub c040 : List ℕ

-- the caches that they are
abbrev pub caches_in : Arrays → Caches
caches_in x = caches_of x.c030 x.c040

-- what `translate` promises, from x to y
abbrev pub Translates : Registers → Access → Memory → Arrays → Translation → ℕ → Arrays → Type 0
Translates g a m x answer count y =
    AnsweredIn (shown_translated (translate g a m (caches_in x))) answer count y.c030 y.c040

-- what each call promises, from x to y: translate, load, test and probe (which change no array), the flushes
pub data Passes (g : Registers) (m : Memory) (x : Arrays) : Call → Arrays → Type 0 where
  translates : {y : Arrays} {answer : Translation} {count : ℕ} (a : Access) → Translates g a m x answer count y → Passes g m x (calls.access a) y
  loads : {c030 : List ℕ} {answer : Load} {count : ℕ} (code : ℕ) (write : Bool) (address : ℕ)
      → LoadedIn (shown_loaded (load g code write address m (caches_in x))) answer count c030
      → Passes g m x (calls.loading code write address) (record { c030 = c030; c040 = x.c040 })
  tests : (code : ℕ) (write : Bool) (level address : ℕ) → Passes g m x (calls.testing code write level address) x
  probes : (own instruction write : Bool) (address : ℕ) → Passes g m x (calls.probing own instruction write address) x
  flushes_all : {y : Arrays} {answer : Flush} → FlushedIn (flush_all (caches_in x)) answer y.c030 y.c040
      → Passes g m x calls.flushing_all y
  flushes_code : {c030 : List ℕ} {answer : Flush} (code mask : ℕ)
      → FlushedIn030 (flush_code code mask (caches_in x)) (cache040_of x.c040) answer c030
      → Passes g m x (calls.flushing_code code mask) (record { c030 = c030; c040 = x.c040 })
  flushes_page : {c030 : List ℕ} {answer : Flush} (code mask address : ℕ)
      → FlushedIn030 (flush_page code mask address (caches_in x)) (cache040_of x.c040) answer c030
      → Passes g m x (calls.flushing_page code mask address) (record { c030 = c030; c040 = x.c040 })
  flushes_frame : {c040 : List ℕ} {answer : Flush} (frame : ℕ)
      → FlushedIn040 (flush_frame frame (caches_in x)) (cache_of x.c030) answer c040
      → Passes g m x (calls.flushing_frame frame) (record { c030 = x.c030; c040 = c040 })

-- calls in place at these turns, from arrays x to arrays y, each under its own registers: the answers that the watched ones gave, in order
pub data Links : Arrays → List Turn → List Translation → Arrays → Type 0 where
  none : {x : Arrays} → Links x [] [] x
  watch : {x y z : Arrays} {answer : Translation} {count : ℕ} {rest : List Turn} {answers : List Translation} (g : Registers) (a : Access) (m : Memory)
      → Translates g a m x answer count y → Links y rest answers z → Links x (under g (watched a m) ∷ rest) (answer ∷ answers) z
  pass : {x y z : Arrays} {rest : List Turn} {answers : List Translation} (g : Registers) (call : Call) (m : Memory)
      → Passes g m x call y → Links y rest answers z → Links x (under g (other call m) ∷ rest) answers z

-- the same at these moments under one set of registers
pub record Chain (g : Registers) (x : Arrays) (l : List Moment) (answers : List Translation) (y : Arrays) : Type 0 where
  pub links : Links x (turns_of g l) answers y
