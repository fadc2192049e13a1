-- PLOAD in three stages, what is planned without the tables, the walk, and what is concluded from it; and what it promises in place.
-- The stages serve the code alone: the meaning is the definition's, and proofs/Loading.antt ties the two.
use Rattle.std.specs.Prelude.{ℕ, ◌%◌, ◌≡◌, List, [], Bool, not, eqb, length}
use Rattle.std.specs.Prelude.{if◌then◌else◌}
use Rattle.definition.specs.Registers.{on}
use Rattle.definition.specs.Transparent.{transparent030}
use Rattle.definition.specs.Walk030.{every_level, walk030, shift_of}
use Rattle.definition.specs.Cache030.{Cache030, flushed_page}
use Rattle.definition.specs.Memory.{Memory}
use Rattle.definition.specs.Translate.{Caches}
use Rattle.definition.specs.Refusal.{no_family, not030, above_seven, bad_cache, refusal_of, unless}
use Rattle.definition.specs.Load.{Loaded, loaded, stopped, load_in_order, load_checks}
use Rattle.definition.specs.declared.Registers.{Registers}
use Rattle.definition.specs.declared.Load.{Load}
use Rattle.cache.specs.Atc030.{cache_of}
use Rattle.walk030.specs.Walked.{shown}
use Rattle.checks.specs.Given.{checks_of, with_third}
use Rattle.search.specs.Searched.{end030}
use Rattle.load.specs.declared.Plan.{Plan}
use Rattle.load.specs.declared.Plan.TheVariants as plan
use Rattle.load.specs.declared.Found.{Found}
use Rattle.load.specs.declared.Found.TheVariants as found

-- ---- the call, where the caller says whether a range is crossed: with the true word it is `load` (proofs/Loading.antt, given_true)
unfoldable pub load_given : Bool → Registers → ℕ → Bool → ℕ → Memory → Caches → Loaded
load_given crossed g code write address m c =
    unless (with_third crossed (load_checks g code m c))
    (λ (n : ℕ). loaded (Load.Refused n) [] c.c030 c) (load_in_order g code write address m c)

-- ---- the plan, and the 68030 cache after it
pub record Planned : Type 0 where
  pub plan : Plan
  pub cache : Cache030

abbrev pub planned : Plan → Cache030 → Planned
planned p c = record { plan = p; cache = c }

abbrev pub load_plan : Bool → ℕ → Plan
load_plan stop code = if stop then Plan.Settled Load.Loaded else Plan.Walk030 code

unfoldable pub load_refusal : Registers → ℕ → Bool → Bool → Cache030 → ℕ
load_refusal g code two crossed c =
    refusal_of (checks_of (no_family g.family) (not030 g.family) (above_seven code) two crossed (bad_cache c))

unfoldable pub plan_load : Registers → ℕ → Bool → ℕ → Bool → Bool → Cache030 → Planned
plan_load g code write address two crossed c =
    if eqb (load_refusal g code two crossed c) 0
    then if not (on g)
    then planned (Plan.Settled Load.Loaded) c
    else planned (load_plan (stopped (shift_of g.tc) (transparent030 g address code write)) code) (flushed_page c code 7 address)
    else planned (Plan.Settled (Load.Refused (load_refusal g code two crossed c))) c

-- a plan r, with the array after it
pub record PlannedIn (p : Planned) (r : Plan) (c030 : List ℕ) : Type 0 where
  pub plans : r ≡ p.plan
  pub leaves : cache_of c030 ≡ p.cache
  pub sized : length c030 ≡ 69

-- ---- the walk that a plan asks for, made
abbrev pub found_load : Memory → Registers → ℕ → Plan → Found
found_load m g address (plan.Settled l) = Found.Settled l
found_load m g address (plan.Walk030 code) = Found.By030 code (shown (walk030 m g address code every_level))

-- ---- and what it gives: an answer, its count and the next 68030 cache
pub record LoadEnded : Type 0 where
  pub answer : Load
  pub count : ℕ
  pub cache : Cache030

abbrev pub load_ended : Load → ℕ → Cache030 → LoadEnded
load_ended l n c = record { answer = l; count = n; cache = c }

-- the definition's, with the 68030 cache alone: the other one stays
abbrev pub shown_loaded : Loaded → LoadEnded
shown_loaded l = load_ended l.answer (length l.asked) l.caches.c030

-- a code has three bits
unfoldable pub concluded_load : ℕ → Bool → ℕ → Cache030 → Found → LoadEnded
concluded_load tc write address c (found.Settled l) = load_ended l 0 c
concluded_load tc write address c (found.By030 code w) =
    load_ended Load.Loaded w.asked (end030 tc c (code % 8) address write w).cache

-- a load's answer and its count, with the 68030 array after them
pub record LoadedIn (e : LoadEnded) (answer : Load) (count : ℕ) (c030 : List ℕ) : Type 0 where
  pub answers : answer ≡ e.answer
  pub counts : count ≡ e.count
  pub leaves : cache_of c030 ≡ e.cache
  pub sized : length c030 ≡ 69
