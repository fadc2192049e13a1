-- Translate in three stages: what is planned without the tables, the walk, and what is concluded from it.
-- It serves the code alone: the meaning is the definition's, and proofs/Staged.antt ties the two.
use Rattle.std.specs.Prelude.{ℕ, ◌/◌, ◌%◌, ◌^◌, Bool, false, not, ◌&&◌, eqb, length, Option, Some, None}
use Rattle.std.specs.Prelude.{if◌then◌else◌}
use Rattle.definition.specs.Registers.{on, as_supervisor, as_instruction, walk_code, compared_code}
use Rattle.definition.specs.Memory.{Memory}
use Rattle.definition.specs.Transparent.{transparent}
use Rattle.definition.specs.Walk030.{walk030, every_level, shift_of}
use Rattle.definition.specs.Walk040.{walk040, page_bits, frame_of, physical040}
use Rattle.definition.specs.Cache030.{Cache030, hit_of, after_hit}
use Rattle.definition.specs.Cache040.{Cache040, hit040, inserted040}
use Rattle.definition.specs.Refusal.{no_family, bad_cache, bad_override, refusal_of, unless}
use Rattle.definition.specs.Translate.{Caches, Translated, hit_address, joined, violation, bus_error, at_once, in_order, translate_checks}
use Rattle.definition.specs.declared.Registers.{Registers}
use Rattle.definition.specs.declared.Access.{Access}
use Rattle.definition.specs.declared.End040.{End040}
use Rattle.definition.specs.declared.End040.TheVariants as ends
use Rattle.definition.specs.declared.FaultCause.TheVariants as cause
use Rattle.definition.specs.declared.Translation.{Translation}
use Rattle.walk030.specs.Walked.{shown}
use Rattle.walk030.specs.declared.Walked.{Walked}
use Rattle.walk040.specs.Walked.{shown040}
use Rattle.walk040.specs.declared.Walked040.{Walked040}
use Rattle.checks.specs.Given.{checks_of, with_third}
use Rattle.search.specs.Searched.{end030}
use Rattle.translate.specs.declared.Plan.{Plan}
use Rattle.translate.specs.declared.Plan.TheVariants as plan
use Rattle.translate.specs.declared.Found.{Found}
use Rattle.translate.specs.declared.Found.TheVariants as found

-- ---- the call, where the caller says whether a range is crossed: with the true word it is `translate` (proofs/Staged.antt, given_true)
unfoldable pub translate_given : Bool → Registers → Access → Memory → Caches → Translated
translate_given crossed g a m c =
    unless (with_third crossed (translate_checks g a m c)) (λ (n : ℕ). at_once (Translation.Refused n) c) (in_order g a m c)

-- ---- the plan
-- a plan, and the caches after it
pub record Planned : Type 0 where
  pub plan : Plan
  pub caches : Caches

abbrev pub planned : Plan → Caches → Planned
planned p c = record { plan = p; caches = c }

-- and the 68030 cache alone after it
pub record Planned030 : Type 0 where
  pub plan : Plan
  pub cache : Cache030

abbrev pub planned030 : Plan → Cache030 → Planned030
planned030 p c = record { plan = p; cache = c }

-- the 68030 cache of a pair replaced
abbrev pub with030_of : Caches → Cache030 → Caches
with030_of c x = record { c030 = x; c040 = c.c040 }

-- and the 68040 cache
abbrev pub with040_of : Caches → Cache040 → Caches
with040_of c x = record { c030 = c.c030; c040 = x }

abbrev pub beside_plan : Caches → Planned030 → Planned
beside_plan c p = planned p.plan (with030_of c p.cache)

-- the answer is an address, and no table is asked
abbrev pub settled_at : ℕ → Plan
settled_at address = Plan.Settled (Translation.Address address)

abbrev pub look_plan : ℕ → ℕ → ℕ → Option ℕ → Plan
look_plan code address shift (Some base) = settled_at (hit_address base address shift)
look_plan code address shift None = Plan.Walk030 code

abbrev pub plan030 : Cache030 → Bool → ℕ → ℕ → Bool → Option ℕ → Planned030
plan030 c recorded code address write None = planned030 (Plan.Walk030 code) c
plan030 c recorded code address write (Some shift) =
    planned030 (look_plan code address shift (hit_of c code (address / 2 ^ shift) shift write))
    (after_hit c recorded code (address / 2 ^ shift) shift)

abbrev pub look_plan040 : ℕ → ℕ → Bool → Option ℕ → Plan
look_plan040 tc address supervisor (Some base) = settled_at (joined tc base address)
look_plan040 tc address supervisor None = Plan.Walk040 supervisor

abbrev pub plan040 : ℕ → Cache040 → ℕ → Bool → Bool → Plan
plan040 tc c address supervisor write =
    look_plan040 tc address supervisor (hit040 c (address / 2 ^ page_bits tc) supervisor write)

unfoldable pub plan_on : Registers → Access → Caches → Planned
plan_on g a c =
    if transparent g a.address (compared_code a) (as_instruction a) a.write
    then planned (settled_at a.address) c
    else if eqb g.family 30
    then beside_plan c (plan030 c.c030 a.recorded (walk_code a) a.address a.write (shift_of g.tc))
    else planned (plan040 g.tc c.c040 a.address (as_supervisor a) a.write) c

abbrev pub plan_in_order : Registers → Access → Caches → Planned
plan_in_order g a c = if not (on g) then planned (settled_at a.address) c else plan_on g a c

-- two: the base is bad; crossed: a range is
unfoldable pub access_refusal : Registers → Access → Bool → Bool → Cache030 → ℕ
access_refusal g a two crossed c =
    refusal_of (checks_of (no_family g.family) false (bad_override a.code) two crossed (bad_cache c))

unfoldable pub plan_access : Registers → Access → Bool → Bool → Caches → Planned
plan_access g a two crossed c =
    if eqb (access_refusal g a two crossed c.c030) 0
    then plan_in_order g a c
    else planned (Plan.Settled (Translation.Refused (access_refusal g a two crossed c.c030))) c

-- ---- the conclusion
-- an answer, its count and the next caches
pub record Answered : Type 0 where
  pub answer : Translation
  pub count : ℕ
  pub caches : Caches

abbrev pub answered : Translation → ℕ → Caches → Answered
answered t n c = record { answer = t; count = n; caches = c }

abbrev pub shown_translated : Translated → Answered
shown_translated t = answered t.answer (length t.asked) t.caches

-- what a resident 68040 page gives, and what any end of the walk gives, with the next 68040 cache
pub record Searched040 : Type 0 where
  pub answer : Translation
  pub cache : Cache040

abbrev pub searched040 : Translation → Cache040 → Searched040
searched040 t c = record { answer = t; cache = c }

unfoldable pub resident040 : ℕ → Cache040 → ℕ → Bool → Bool → ℕ → Bool → Bool → Searched040
resident040 tc c address supervisor write field wp sup =
    if write && wp
    then searched040 (violation cause.WriteProtect address) c
    else if not supervisor && sup
    then searched040 (violation cause.SupervisorProtect address) c
    else searched040 (Translation.Address (physical040 tc field address))
    (inserted040 c (address / 2 ^ page_bits tc) supervisor (frame_of tc field) wp sup)

unfoldable pub end040 : ℕ → Cache040 → ℕ → Bool → Bool → End040 → Searched040
end040 tc c address supervisor write (ends.Resident field wp sup) = resident040 tc c address supervisor write field wp sup
end040 tc c address supervisor write (ends.Absent missing) = searched040 (violation missing address) c
end040 tc c address supervisor write (ends.Lost at) = searched040 (bus_error at) c

-- what a walk gives. A code has three bits
unfoldable pub after030 : ℕ → Access → Caches → ℕ → Walked → Answered
after030 tc a c code w =
    answered (end030 tc c.c030 (code % 8) a.address a.write w).answer w.asked
    (with030_of c (end030 tc c.c030 (code % 8) a.address a.write w).cache)

unfoldable pub after040 : ℕ → Access → Caches → Bool → Walked040 → Answered
after040 tc a c supervisor w =
    answered (end040 tc c.c040 a.address supervisor a.write w.end).answer w.asked
    (with040_of c (end040 tc c.c040 a.address supervisor a.write w.end).cache)

-- the walk that a plan asks for, made
abbrev pub found_of : Memory → Registers → Access → Plan → Found
found_of m g a (plan.Settled t) = Found.Settled t
found_of m g a (plan.Walk030 code) = Found.By030 code (shown (walk030 m g a.address code every_level))
found_of m g a (plan.Walk040 supervisor) = Found.By040 supervisor (shown040 (walk040 m g a.address supervisor))

-- and what it gives
unfoldable pub concluded_of : Registers → Access → Caches → Found → Answered
concluded_of g a c (found.Settled t) = answered t 0 c
concluded_of g a c (found.By030 code w) = after030 g.tc a c code w
concluded_of g a c (found.By040 supervisor w) = after040 g.tc a c supervisor w
