-- The mission's demand 3: a replay as a list of moments, the run over it, and what 'steady' means.
use Prim.Native.Nat.{ℕ, ◌^◌, ◌<◌}
use mathlib.Core.Path.{◌≡◌}
use mathlib.Core.Logic.{◌⊎◌}
use mathlib.Core.List.{List, [], ◌∷◌}
use lib.ListN.{length, get_or}
use Rattle.definition.specs.Memory.{Memory, fetch_of}
use Rattle.definition.specs.Refusal.{refusal_of}
use Rattle.definition.specs.Translate.{Caches, empty_caches, translate, translate_checks, cacheless}
use Rattle.definition.specs.Audit.{audit}
use Rattle.definition.specs.Calls.{Call, calling}
use Rattle.definition.specs.declared.Registers.{Registers}
use Rattle.definition.specs.declared.Access.{Access}
use Rattle.definition.specs.declared.Audit.{Audit}
use Rattle.definition.specs.declared.Translation.{Translation}

-- a watched access, or any call, with the table memory as it stands then
pub data Moment : Type 0 where
  watched : Access → Memory → Moment
  other : Call → Memory → Moment

abbrev pub memory_at : Moment → Memory
memory_at (watched a m) = m
memory_at (other call m) = m

-- the caches after a moment
abbrev pub after : Registers → Caches → Moment → Caches
after g c (watched a m) = (translate g a m c).caches
after g c (other call m) = (calling g m c call).caches

-- the caches after a run over the moments
unfoldable pub after_all : Registers → Caches → List Moment → Caches
after_all g c [] = c
after_all g c (now ∷ rest) = after_all g (after g c now) rest

-- the answers of the watched accesses, in order, in a run over the moments
unfoldable pub answers_from : Registers → Caches → List Moment → List Translation
answers_from g c [] = []
answers_from g c (watched a m ∷ rest) = (translate g a m c).answer ∷ answers_from g (after g c (watched a m)) rest
answers_from g c (other call m ∷ rest) = answers_from g (after g c (other call m)) rest

-- 'from empty caches under the same registers'
abbrev pub answers : Registers → List Moment → List Translation
answers g moments = answers_from g empty_caches moments

-- the watched accesses, in order
unfoldable pub watched_of : List Moment → List Access
watched_of [] = []
watched_of (watched a m ∷ rest) = a ∷ watched_of rest
watched_of (other call m ∷ rest) = watched_of rest

-- what the cacheless walk of each watched access gives at its moment
unfoldable pub walks_of : Registers → List Moment → List Translation
walks_of g [] = []
walks_of g (watched a m ∷ rest) = (cacheless g a m).answer ∷ walks_of g rest
walks_of g (other call m ∷ rest) = walks_of g rest

-- x is one of l
abbrev pub In : {X : Type 0} → X → List X → Type 0
In x [] = ⊥
In x (y ∷ l) = (x ≡ y) ⊎ In x l

-- 'every long that the cacheless walks of those accesses fetch reads the same throughout': value or bus error, at every moment of l
pub record Steady (g : Registers) (l : List Moment) : Type 0 where
  pub same : (a : Access) (m : Memory) (now : Moment) (at : ℕ)
      → In (watched a m) l → In now l → In at (cacheless g a m).asked → fetch_of (memory_at now) at ≡ fetch_of m at

-- no watched access is refused
pub record Accepted (g : Registers) (l : List Moment) : Type 0 where
  pub none : (a : Access) (m : Memory) → In (watched a m) l → refusal_of (translate_checks g a m empty_caches) ≡ 0

-- ---- a run from a snapshot, in place of the empty caches
-- caches of 22 entries, as they have, whose audit over the memory as it stood then says Clean
pub record CleanSnapshot (g : Registers) (m : Memory) (c : Caches) : Type 0 where
  pub size : length c.c030.entries ≡ 22
  pub clean : audit g m c ≡ Audit.Clean

-- every long that the cacheless walks of the watched accesses fetch reads in the snapshot as at the access's own moment
pub record Since (g : Registers) (m : Memory) (l : List Moment) : Type 0 where
  pub same : (a : Access) (n : Memory) (at : ℕ) → In (watched a n) l → In at (cacheless g a n).asked → fetch_of m at ≡ fetch_of n at

-- ---- caches that calls reach
-- calls made them from the empty caches, each under any registers and over any memory of which M holds
pub data Reached (M : Memory → Type 0) : Caches → Type 0 where
  start : Reached M empty_caches
  then_call : (g : Registers) (m : Memory) (call : Call) {c : Caches} → M m → Reached M c → Reached M (calling g m c call).caches

-- a memory for `Reached`: 'longs', of 32 bits each
pub record Longs32 (m : Memory) : Type 0 where
  pub each : (k : ℕ) → get_or m.longs k 0 < 2 ^ 32
