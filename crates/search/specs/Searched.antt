-- What an end of a 68030 walk gives, and what the code promises of it in place.
-- It serves the code alone: the meaning is the definition's.
use Rattle.std.specs.Prelude.{ℕ, ◌≡◌, List, [], Bool, ◌&&◌, length}
use Rattle.std.specs.Prelude.{if◌then◌else◌}
use Rattle.definition.specs.Cache030.{Cache030}
use Rattle.definition.specs.Translate.{Searched, violation, on_page030, on_end030}
use Rattle.definition.specs.declared.FaultCause.{FaultCause}
use Rattle.definition.specs.declared.FaultCause.TheVariants as cause
use Rattle.definition.specs.declared.Translation.{Translation}
use Rattle.walk030.specs.declared.Walked.{Walked}
use Rattle.cache.specs.Atc030.{cache_of}

-- the cause of an invalid descriptor, and the answer of a page that S may forbid
abbrev pub missing_cause : Bool → FaultCause
missing_cause indirect = if indirect then cause.Indirect else cause.PageFault

unfoldable pub permitted_of : Bool → Bool → Bool → ℕ → ℕ → Translation
permitted_of forbidden write wp address physical =
    if forbidden
    then violation cause.SupervisorProtect address
    else if write && wp
    then violation cause.WriteProtect address
    else Translation.Address physical

-- what a page that a 68030 walk found gives, and what any end of it gives, with the next 68030 cache
unfoldable pub page030 : ℕ → Cache030 → ℕ → ℕ → Bool → Bool → Bool → ℕ → Searched
page030 tc c code address write wp sup physical = on_page030 tc c code address write wp sup [] physical

unfoldable pub end030 : ℕ → Cache030 → ℕ → ℕ → Bool → Walked → Searched
end030 tc c code address write w = on_end030 tc c code address write w.wp w.sup [] w.end

-- a 68030 search's answer r, with the arrays after it
pub record Ended (s : Searched) (r : Translation) (a : List ℕ) : Type 0 where
  pub answers : r ≡ s.answer
  pub leaves : cache_of a ≡ s.cache
  pub sized : length a ≡ 69
