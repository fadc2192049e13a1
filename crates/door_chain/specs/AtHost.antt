-- A host's calls at its door (crates/host), one after the other: what it passes, by its numbers, and what it is told. Each link is the contract of its call.
-- `mmu_empty` gives the arrays that a chain starts from. `mmu_test`, `mmu_probe`, `mmu_audit`, `mmu_finding` and `mmu_list` are lent no array to change.
use Rattle.std.specs.Prelude.{ℕ, Bool, ◌≡◌, List, [], ◌∷◌, map, take, get_or}
use Rattle.definition.specs.Words.{bit_of}
use Rattle.definition.specs.Memory.{Memory}
use Rattle.definition.specs.Cache030.{Cache030}
use Rattle.definition.specs.Cache040.{Cache040}
use Rattle.definition.specs.Refusal.{refusal_of}
use Rattle.definition.specs.Translate.{empty_caches, translate_checks, translate}
use Rattle.definition.specs.Load.{load}
use Rattle.definition.specs.Flush.{flush_all, flush_code, flush_page, flush_frame}
use Rattle.definition.specs.Calls as calls
use Rattle.definition.specs.Calls.{Call}
use Rattle.definition.proofs.Replay as replay
use Rattle.definition.proofs.Replay.{Moment, In}
use Rattle.definition.proofs.Turns as turns
use Rattle.definition.proofs.Turns.{Turn, Made, made, walk_answer, ReadsAlike}
use Rattle.definition.specs.declared.Access.{Access}
use Rattle.definition.specs.declared.Translation.{Translation}
use Rattle.cache.specs.Atc030.{cache_of}
use Rattle.cache.specs.Atc040.{cache040_of}
use Rattle.cache.specs.Pair.{pair_with}
use Rattle.chain.specs.Chain.{Arrays, caches_in}
use Rattle.numbers.specs.Numbers.{registers_of, access_of, translation_numbers, TranslatedTo, LoadedTo, FlushedTo}

-- ---- what a host passes
-- the numbers of an access
pub record Asked : Type 0 where
  pub flags : ℕ
  pub code : ℕ
  pub address : ℕ

abbrev pub access_in : Asked → Access
access_in a = access_of a.flags a.code a.address

-- a call by its numbers
pub data HostCall : Type 0 where
  translating : Asked → HostCall
  loading : (code : ℕ) (write : Bool) (address : ℕ) → HostCall
  testing : (code : ℕ) (write : Bool) (level address : ℕ) → HostCall
  probing : (flags address : ℕ) → HostCall
  flushing_all : HostCall
  flushing_code : (code mask : ℕ) → HostCall
  flushing_page : (code mask address : ℕ) → HostCall
  flushing_frame : (frame : ℕ) → HostCall

-- a watched `mmu_translate`, or any call, with the longs, their base and the ranges as they stand then, whether the call is lent them or not
pub data HostMoment : Type 0 where
  watched : Asked → Memory → HostMoment
  other : HostCall → Memory → HostMoment

-- and the 13 numbers of the registers as they stand then
pub data HostTurn : Type 0 where
  under : List ℕ → HostMoment → HostTurn

-- ---- what these are to the definition
abbrev pub call_of : HostCall → Call
call_of (translating a) = calls.access (access_in a)
call_of (loading code write address) = calls.loading code write address
call_of (testing code write level address) = calls.testing code write level address
call_of (probing flags address) = calls.probing (bit_of flags 3) (bit_of flags 2) (bit_of flags 0) address
call_of flushing_all = calls.flushing_all
call_of (flushing_code code mask) = calls.flushing_code code mask
call_of (flushing_page code mask address) = calls.flushing_page code mask address
call_of (flushing_frame frame) = calls.flushing_frame frame

abbrev pub moment_of : HostMoment → Moment
moment_of (watched a m) = replay.watched (access_in a) m
moment_of (other call m) = replay.other (call_of call) m

abbrev pub moments_at : List HostMoment → List Moment
moments_at l = map moment_of l

abbrev pub turn_of : HostTurn → Turn
turn_of (under ns now) = turns.under (registers_of ns) (moment_of now)

abbrev pub turns_at : List HostTurn → List Turn
turns_at l = map turn_of l

-- ---- what a host is told
-- of the five numbers the first four: address, fault or refusal, its number, a fault's kind and cause. The fifth is the count, which a hit makes 0
abbrev pub answer_in : List ℕ → List ℕ
answer_in out = take 4 out

-- those of an answer
abbrev pub answer_numbers : Translation → List ℕ
answer_numbers t = answer_in (translation_numbers t 0)

-- ---- watched calls
-- as they are made: with the registers' numbers and their own, over this memory
pub record HostMade : Type 0 where
  pub registers : List ℕ
  pub asked : Asked
  pub memory : Memory

unfoldable pub made_at : List HostTurn → List HostMade
made_at [] = []
made_at (under ns (watched a m) ∷ rest) = record { registers = ns; asked = a; memory = m } ∷ made_at rest
made_at (under ns (other call m) ∷ rest) = made_at rest

-- their own numbers, in order
abbrev pub asked_at : List HostTurn → List Asked
asked_at l = map (λ (w : HostMade). w.asked) (made_at l)

abbrev pub made_of : HostMade → Made
made_of w = made (registers_of w.registers) (access_in w.asked) w.memory

-- two have the same numbers, and every long that the cacheless walk asks for reads the same in both memories
pub record SameNumbers (w w' : HostMade) : Type 0 where
  pub registers : w.registers ≡ w'.registers
  pub asked : w.asked ≡ w'.asked
  pub reads : ReadsAlike (made_of w) w'.memory

-- no check but 4 applies
abbrev pub Taken : HostMade → Type 0
Taken w = refusal_of (translate_checks (registers_of w.registers) (access_in w.asked) w.memory empty_caches) ≡ 0

-- or, by what was told: the first number of none is 2, a refusal
pub record Unrefused (told : List (List ℕ)) : Type 0 where
  pub never : (out : List ℕ) → In out told → get_or out 0 0 ≡ 2 → ⊥

-- what the cacheless walk gives, with the registers and tables of that moment
abbrev pub walk_numbers : HostMade → List ℕ
walk_numbers w = answer_numbers (walk_answer (made_of w))

-- what is claimed of two chains: each watched call is told the same in both, and it is what its cacheless walk gives, all but the count
pub record ToldAlike (l : List HostTurn) (told told' : List (List ℕ)) : Type 0 where
  pub alike : map answer_in told ≡ map answer_in told'
  pub walked : map answer_in told ≡ map walk_numbers (made_at l)

-- ---- what the contracts promise, from the arrays x to the arrays y
-- of `mmu_translate`, which writes `out`
abbrev pub Tells : List ℕ → Asked → Memory → Arrays → List ℕ → Arrays → Type 0
Tells ns a m x out y = TranslatedTo (translate (registers_of ns) (access_in a) m (caches_in x)) out (caches_in y)

-- of each call
pub data HostPasses (ns : List ℕ) (m : Memory) (x : Arrays) : HostCall → Arrays → Type 0 where
  translates : {y : Arrays} {out : List ℕ} (a : Asked) → Tells ns a m x out y → HostPasses ns m x (translating a) y
  loads : {c030 : List ℕ} {out : List ℕ} (code : ℕ) (write : Bool) (address : ℕ)
      → ((k : Cache040) → LoadedTo (load (registers_of ns) code write address m (pair_with (cache_of x.c030) k)) out (cache_of c030))
      → HostPasses ns m x (loading code write address) (record { c030 = c030; c040 = x.c040 })
  tests : (code : ℕ) (write : Bool) (level address : ℕ) → HostPasses ns m x (testing code write level address) x
  probes : (flags address : ℕ) → HostPasses ns m x (probing flags address) x
  flushes_all : {y : Arrays} {number : ℕ} → FlushedTo (flush_all (caches_in x)) number (caches_in y) → HostPasses ns m x flushing_all y
  flushes_code : {c030 : List ℕ} {number : ℕ} (code mask : ℕ)
      → ((k : Cache040) → FlushedTo (flush_code code mask (pair_with (cache_of x.c030) k)) number (pair_with (cache_of c030) k))
      → HostPasses ns m x (flushing_code code mask) (record { c030 = c030; c040 = x.c040 })
  flushes_page : {c030 : List ℕ} {number : ℕ} (code mask address : ℕ)
      → ((k : Cache040) → FlushedTo (flush_page code mask address (pair_with (cache_of x.c030) k)) number (pair_with (cache_of c030) k))
      → HostPasses ns m x (flushing_page code mask address) (record { c030 = c030; c040 = x.c040 })
  flushes_frame : {c040 : List ℕ} {number : ℕ} (frame : ℕ)
      → ((c : Cache030) → FlushedTo (flush_frame frame (pair_with c (cache040_of x.c040))) number (pair_with c (cache040_of c040)))
      → HostPasses ns m x (flushing_frame frame) (record { c030 = x.c030; c040 = c040 })

-- ---- calls one after the other
-- from the arrays x to the arrays y, each under its own registers: what the watched ones wrote, in order
pub data HostLinks : Arrays → List HostTurn → List (List ℕ) → Arrays → Type 0 where
  none : {x : Arrays} → HostLinks x [] [] x
  watch : {x y z : Arrays} {out : List ℕ} {rest : List HostTurn} {told : List (List ℕ)} (ns : List ℕ) (a : Asked) (m : Memory)
      → Tells ns a m x out y → HostLinks y rest told z → HostLinks x (under ns (watched a m) ∷ rest) (out ∷ told) z
  pass : {x y z : Arrays} {rest : List HostTurn} {told : List (List ℕ)} (ns : List ℕ) (call : HostCall) (m : Memory)
      → HostPasses ns m x call y → HostLinks y rest told z → HostLinks x (under ns (other call m) ∷ rest) told z

-- the same under one set of registers
abbrev pub all_under : List ℕ → List HostMoment → List HostTurn
all_under ns l = map (under ns) l

pub record HostChain (ns : List ℕ) (x : Arrays) (l : List HostMoment) (told : List (List ℕ)) (y : Arrays) : Type 0 where
  pub links : HostLinks x (all_under ns l) told y
