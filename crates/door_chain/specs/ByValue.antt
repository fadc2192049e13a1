-- The calls by value (crates/mmu, tableless), one after the other: each takes the pair that the one before gave. Each link is the contract of its call.
-- A call over a lent pair (crates/pair) promises the same of its answer, its count and the pair at exit put together, so it is such a link too
-- (proofs/ByValue.antt, 'over a lent pair'); a chain may have both.
use Rattle.std.specs.Prelude.{ℕ, Bool, List, [], ◌∷◌}
use Rattle.definition.specs.Memory.{Memory}
use Rattle.definition.specs.Translate.{translate}
use Rattle.definition.specs.Load.{load}
use Rattle.definition.specs.Flush.{flush_all, flush_code, flush_page, flush_frame}
use Rattle.definition.specs.Calls as calls
use Rattle.definition.specs.Calls.{Call}
use Rattle.definition.proofs.Replay.{Moment, watched, other}
use Rattle.definition.proofs.Turns.{Turn, under, turns_of}
use Rattle.definition.specs.declared.Registers.{Registers}
use Rattle.definition.specs.declared.Access.{Access}
use Rattle.definition.specs.declared.Translation.{Translation}
use Rattle.cache.specs.Pair.{pair_of}
use Rattle.cache.specs.declared.CachePair.{CachePair}
use Rattle.tableless.specs.ByValue.{FlushedBy}
use Rattle.tableless.specs.declared.Flushed.{Flushed}
use Rattle.mmu.specs.ByValue.{TranslatedBy, LoadedBy}
use Rattle.mmu.specs.declared.by_value.Translated.{Translated}
use Rattle.mmu.specs.declared.by_value.Loaded.{Loaded}

-- what each call promises of its result r, from the pair x: translate, load, test and probe (which give no pair), the flushes
pub data PairPasses (g : Registers) (m : Memory) (x : CachePair) : Call → CachePair → Type 0 where
  translates : (a : Access) (r : Translated) → TranslatedBy (translate g a m (pair_of x)) r → PairPasses g m x (calls.access a) r.caches
  loads : (code : ℕ) (write : Bool) (address : ℕ) (r : Loaded) → LoadedBy (load g code write address m (pair_of x)) r
      → PairPasses g m x (calls.loading code write address) r.caches
  tests : (code : ℕ) (write : Bool) (level address : ℕ) → PairPasses g m x (calls.testing code write level address) x
  probes : (own instruction write : Bool) (address : ℕ) → PairPasses g m x (calls.probing own instruction write address) x
  flushes_all : (r : Flushed) → FlushedBy (flush_all (pair_of x)) r → PairPasses g m x calls.flushing_all r.caches
  flushes_code : (code mask : ℕ) (r : Flushed) → FlushedBy (flush_code code mask (pair_of x)) r
      → PairPasses g m x (calls.flushing_code code mask) r.caches
  flushes_page : (code mask address : ℕ) (r : Flushed) → FlushedBy (flush_page code mask address (pair_of x)) r
      → PairPasses g m x (calls.flushing_page code mask address) r.caches
  flushes_frame : (frame : ℕ) (r : Flushed) → FlushedBy (flush_frame frame (pair_of x)) r → PairPasses g m x (calls.flushing_frame frame) r.caches

-- calls at these turns, from the pair x to the pair y, each under its own registers: the answers that the watched ones gave, in order
pub data PairLinks : CachePair → List Turn → List Translation → CachePair → Type 0 where
  none : {x : CachePair} → PairLinks x [] [] x
  watch : {x y : CachePair} {rest : List Turn} {answers : List Translation} (g : Registers) (a : Access) (m : Memory) (r : Translated)
      → TranslatedBy (translate g a m (pair_of x)) r → PairLinks r.caches rest answers y
      → PairLinks x (under g (watched a m) ∷ rest) (r.answer ∷ answers) y
  pass : {x y z : CachePair} {rest : List Turn} {answers : List Translation} (g : Registers) (call : Call) (m : Memory)
      → PairPasses g m x call y → PairLinks y rest answers z → PairLinks x (under g (other call m) ∷ rest) answers z

-- the same at these moments under one set of registers
pub record PairChain (g : Registers) (x : CachePair) (l : List Moment) (answers : List Translation) (y : CachePair) : Type 0 where
  pub links : PairLinks x (turns_of g l) answers y
