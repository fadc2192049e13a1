-- Request 14's words: a replay whose registers may change from call to call, the epochs that the caches give it, and what is asked of its watched accesses.
use mathlib.Core.Path.{◌≡◌}
use mathlib.Core.List.{List, [], ◌∷◌, ◌++◌, map}
use mathlib.Core.Bool.{Bool, true, false, not, ◌&&◌}
use mathlib.Core.Logic.{◌⊎◌}
use Rattle.std.specs.Prelude.{if◌then◌else◌}
use Rattle.definition.specs.Words.{all_of}
use Rattle.definition.specs.Memory.{Memory}
use Rattle.definition.specs.Cache030.{Entry}
use Rattle.definition.specs.Cache040.{Slot}
use Rattle.definition.specs.Refusal.{refusal_of}
use Rattle.definition.specs.Translate.{Caches, empty_caches, Translated, translate, translate_checks, cacheless}
use Rattle.definition.specs.Calls.{access, loading, testing, probing, flushing_all, flushing_code, flushing_page, flushing_frame}
use Rattle.definition.proofs.Replay.{Moment, watched, other, memory_at, after, In}
use Rattle.definition.proofs.Lists.{All}
use Rattle.definition.proofs.Agree.{Agree}
use Rattle.definition.specs.declared.Registers.{Registers}
use Rattle.definition.specs.declared.Access.{Access}
use Rattle.definition.specs.declared.Translation.{Translation}

-- ---- a replay
-- 'Registers .. may now change between calls': a moment, and the registers that it is made under
pub data Turn : Type 0 where
  under : Registers → Moment → Turn

-- moments under one set of registers
abbrev pub turns_of : Registers → List Moment → List Turn
turns_of g l = map (under g) l

-- the caches after a turn, and after turns
abbrev pub after_turn : Caches → Turn → Caches
after_turn c (under g now) = after g c now

unfoldable pub after_turns : Caches → List Turn → Caches
after_turns c [] = c
after_turns c (t ∷ rest) = after_turns (after_turn c t) rest

-- the answers of the watched accesses, in order
unfoldable pub answers_through : Caches → List Turn → List Translation
answers_through c [] = []
answers_through c (under g (watched a m) ∷ rest) = (translate g a m c).answer ∷ answers_through (after g c (watched a m)) rest
answers_through c (under g (other call m) ∷ rest) = answers_through (after g c (other call m)) rest

-- ---- epochs
-- one of the flushes
abbrev pub is_flush : Moment → Bool
is_flush (watched a m) = false
is_flush (other (access a) m) = false
is_flush (other (loading code write address) m) = false
is_flush (other (testing code write level address) m) = false
is_flush (other (probing own instruction write address) m) = false
is_flush (other flushing_all m) = true
is_flush (other (flushing_code code mask) m) = true
is_flush (other (flushing_page code mask address) m) = true
is_flush (other (flushing_frame frame) m) = true

-- 'leaves no valid entry in either cache'
unfoldable pub vacant : Caches → Bool
vacant c =
    all_of (λ (e : Entry). not e.valid) c.c030.entries && all_of (λ (s : Slot). not s.valid) c.c040.slots

-- what an entry can come from: an access or a PLOAD, by its registers and its memory
pub record Source : Type 0 where
  pub registers : Registers
  pub memory : Memory

abbrev pub source : Registers → Memory → Source
source g m = record { registers = g; memory = m }

-- nothing else adds an entry
abbrev pub sources_in : Turn → List Source
sources_in (under g (watched a m)) = source g m ∷ []
sources_in (under g (other (access a) m)) = source g m ∷ []
sources_in (under g (other (loading code write address) m)) = source g m ∷ []
sources_in (under g (other (testing code write level address) m)) = []
sources_in (under g (other (probing own instruction write address) m)) = []
sources_in (under g (other flushing_all m)) = []
sources_in (under g (other (flushing_code code mask) m)) = []
sources_in (under g (other (flushing_page code mask address) m)) = []
sources_in (under g (other (flushing_frame frame) m)) = []

-- 'An epoch starts .. after each call that leaves no valid entry in either cache'
abbrev pub starts_after : Caches → Turn → Bool
starts_after c t = vacant (after_turn c t)

-- the accesses and PLOADs of the epoch so far
unfoldable pub since_after : List Source → Caches → Turn → List Source
since_after since c t = if starts_after c t then [] else sources_in t ++ since

unfoldable pub since_all : List Source → Caches → List Turn → List Source
since_all since c [] = since
since_all since c (t ∷ rest) = since_all (since_after since c t) (after_turn c t) rest

-- ---- watched accesses
-- an access as it is made: under these registers, over this memory
pub record Made : Type 0 where
  pub registers : Registers
  pub access : Access
  pub memory : Memory

abbrev pub made : Registers → Access → Memory → Made
made g a m = record { registers = g; access = a; memory = m }

-- 'the cacheless walk's with the registers and tables of that moment'
abbrev pub walk_of : Made → Translated
walk_of w = cacheless w.registers w.access w.memory

abbrev pub walk_answer : Made → Translation
walk_answer w = (walk_of w).answer

-- a watched access, with the accesses and PLOADs before it in its epoch
pub record Watch : Type 0 where
  pub made : Made
  pub since : List Source

abbrev pub watch : Made → List Source → Watch
watch w since = record { made = w; since = since }

unfoldable pub watches_from : Caches → List Source → List Turn → List Watch
watches_from c since [] = []
watches_from c since (under g (watched a m) ∷ rest) =
    watch (made g a m) since ∷ watches_from (after g c (watched a m)) (since_after since c (under g (watched a m))) rest
watches_from c since (under g (other call m) ∷ rest) =
    watches_from (after g c (other call m)) (since_after since c (under g (other call m))) rest

-- ---- a replay from the empty caches: 'An epoch starts at the replay's start'
abbrev pub answers_of : List Turn → List Translation
answers_of l = answers_through empty_caches l

abbrev pub watches_of : List Turn → List Watch
watches_of l = watches_from empty_caches [] l

-- ---- the premises
-- two memories read alike along the list of an access's cacheless walk: the one relation that all of this speaks through
abbrev pub AlikeFor : Made → Memory → Memory → Type 0
AlikeFor w m m' = Agree m m' (walk_of w).asked

-- a memory reads as the access's own
abbrev pub ReadsAlike : Made → Memory → Type 0
ReadsAlike w m = AlikeFor w w.memory m

-- it was made under the access's registers, and its memory reads alike along that list
pub record Suits (w : Made) (s : Source) : Type 0 where
  pub registers : s.registers ≡ w.registers
  pub reads : ReadsAlike w s.memory

-- (E) so it is with each access and PLOAD before it in its epoch
abbrev pub Fresh : Watch → Type 0
Fresh w = All (Suits w.made) w.since

-- (X) two watched accesses are the same access under the same registers, and their memories read alike along the list
pub record Same (w w' : Watch) : Type 0 where
  pub access : w.made.access ≡ w'.made.access
  pub registers : w.made.registers ≡ w'.made.registers
  pub reads : ReadsAlike w.made w'.made.memory

-- (A) it isn't refused
abbrev pub Allowed : Watch → Type 0
Allowed w = refusal_of (translate_checks w.made.registers w.made.access w.made.memory empty_caches) ≡ 0

-- (E) and (A) of all the watched accesses of a replay
pub record Kept (l : List Watch) : Type 0 where
  pub fresh : All Fresh l
  pub allowed : All Allowed l

-- ---- the request's own words
abbrev pub registers_in : Turn → Registers
registers_in (under g now) = g

abbrev pub memory_in : Turn → Memory
memory_in (under g now) = memory_at now

-- 'a flush that empties both caches'
abbrev pub empties : Caches → Turn → Bool
empties c (under g now) = is_flush now && vacant (after g c now)

-- 'access, PLOAD or probe'
abbrev pub is_use : Turn → Bool
is_use (under g (watched a m)) = true
is_use (under g (other (access a) m)) = true
is_use (under g (other (loading code write address) m)) = true
is_use (under g (other (testing code write level address) m)) = false
is_use (under g (other (probing own instruction write address) m)) = true
is_use (under g (other flushing_all m)) = false
is_use (under g (other (flushing_code code mask) m)) = false
is_use (under g (other (flushing_page code mask address) m)) = false
is_use (under g (other (flushing_frame frame) m)) = false

-- such a flush comes 'before the next access, PLOAD or probe'
unfoldable pub FlushFirst : Caches → List Turn → Type 0
FlushFirst c [] = Unit {0}
FlushFirst c (t ∷ rest) = (empties c t ≡ true) ⊎ ((is_use t ≡ false) × FlushFirst (after_turn c t) rest)

abbrev pub made_in : Turn → List Made
made_in (under g (watched a m)) = made g a m ∷ []
made_in (under g (other call m)) = []

-- the watched accesses 'made before the next such flush'
unfoldable pub until_flush : Caches → List Turn → List Made
until_flush c [] = []
until_flush c (t ∷ rest) = if empties c t then [] else made_in t ++ until_flush (after_turn c t) rest

-- from a turn to the next neither the registers change nor a watched long: 'one that the cacheless walk of a watched access made before the next such
-- flush fetches'
pub record Unchanged (coming : List Made) (t next : Turn) : Type 0 where
  pub registers : registers_in t ≡ registers_in next
  pub reads : (w : Made) → In w coming → AlikeFor w (memory_in t) (memory_in next)

-- 'Registers and watched longs may now change between calls, if a flush that empties both caches comes after each such change and before the next access,
-- PLOAD or probe.'
unfoldable pub ChangesFlushed : Caches → List Turn → Type 0
ChangesFlushed c [] = Unit {0}
ChangesFlushed c (t ∷ []) = Unit {0}
ChangesFlushed c (t ∷ next ∷ rest) =
    (Unchanged (until_flush (after_turn c t) (next ∷ rest)) t next ⊎ FlushFirst (after_turn c t) (next ∷ rest))
    × ChangesFlushed (after_turn c t) (next ∷ rest)
