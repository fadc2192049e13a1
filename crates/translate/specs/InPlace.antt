-- What translate promises in place, stage by stage: the answer, and the caches that the arrays are at exit.
use Rattle.std.specs.Prelude.{ℕ, ◌%◌, ◌≡◌, List, Bool, length}
use Rattle.definition.specs.Cache030.{Cache030}
use Rattle.definition.specs.Cache040.{Cache040}
use Rattle.definition.specs.declared.Registers.{Registers}
use Rattle.definition.specs.declared.Access.{Access}
use Rattle.definition.specs.declared.Translation.{Translation}
use Rattle.walk030.specs.declared.Walked.{Walked}
use Rattle.walk040.specs.declared.Walked040.{Walked040}
use Rattle.search.specs.Searched.{end030, Ended}
use Rattle.cache.specs.Atc030.{cache_of}
use Rattle.cache.specs.Atc040.{cache040_of}
use Rattle.cache.specs.Pair.{caches_of, SizedAll}
use Rattle.translate.specs.Stages.{Planned030, Planned, Searched040, end040, Answered}
use Rattle.translate.specs.declared.Plan.{Plan}

-- a plan r, with the 68030 array after it
pub record PlannedIn030 (p : Planned030) (r : Plan) (c030 : List ℕ) : Type 0 where
  pub plans : r ≡ p.plan
  pub leaves : cache_of c030 ≡ p.cache
  pub sized : length c030 ≡ 69

-- and with both arrays
pub record PlannedIn (p : Planned) (r : Plan) (c030 c040 : List ℕ) : Type 0 where
  pub plans : r ≡ p.plan
  pub leaves : caches_of c030 c040 ≡ p.caches
  pub whole : SizedAll c030 c040

-- a 68040 search's answer r, with the arrays after it
pub record Ended040 (s : Searched040) (r : Translation) (c040 : List ℕ) : Type 0 where
  pub answers : r ≡ s.answer
  pub leaves : cache040_of c040 ≡ s.cache
  pub sized : length c040 ≡ 128

-- what a walk w gives an access: the answer, its count, and the array of its cache after them. A code has three bits
abbrev pub Gave030 : Registers → Access → Cache030 → ℕ → Walked → Translation → ℕ → List ℕ → Type 0
Gave030 g a c code w answer count c030 =
    Ended (end030 g.tc c (code % 8) a.address a.write w) answer c030 × (count ≡ w.asked)

abbrev pub Gave040 : Registers → Access → Cache040 → Bool → Walked040 → Translation → ℕ → List ℕ → Type 0
Gave040 g a c supervisor w answer count c040 =
    Ended040 (end040 g.tc c a.address supervisor a.write w.end) answer c040 × (count ≡ w.asked)

-- an answer and its count, with the arrays after them
pub record AnsweredIn (a : Answered) (answer : Translation) (count : ℕ) (c030 c040 : List ℕ) : Type 0 where
  pub answers : answer ≡ a.answer
  pub counts : count ≡ a.count
  pub leaves : caches_of c030 c040 ≡ a.caches
  pub whole : SizedAll c030 c040
