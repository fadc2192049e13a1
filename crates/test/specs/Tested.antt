-- PTEST in three stages, what is planned without the tables, the walk, and what is concluded from it; and what it promises in place.
-- The stages serve the code alone: the meaning is the definition's, and proofs/Testing.antt ties the two.
use Rattle.std.specs.Prelude.{ℕ, ◌≡◌, [], Bool, false, ◌||◌, eqb, length}
use Rattle.std.specs.Prelude.{if◌then◌else◌}
use Rattle.definition.specs.Memory.{Memory}
use Rattle.definition.specs.Walk030.{walk030}
use Rattle.definition.specs.Transparent.{transparent030}
use Rattle.definition.specs.Refusal.{no_family, not030, above_seven, refusal_of, unless}
use Rattle.definition.specs.Test.{Tested, tested, flag, mmusr_of, test_in_order, test_checks}
use Rattle.definition.specs.declared.Registers.{Registers}
use Rattle.definition.specs.declared.Test.{Test}
use Rattle.walk030.specs.Walked.{shown}
use Rattle.checks.specs.Given.{checks_of, with_third}
use Rattle.test.specs.declared.Plan.{Plan}
use Rattle.test.specs.declared.Plan.TheVariants as plan
use Rattle.test.specs.declared.Found.{Found}
use Rattle.test.specs.declared.Found.TheVariants as found

-- ---- the call, where the caller says whether a range is crossed: with the true word it is `test` (proofs/Testing.antt, given_true)
unfoldable pub test_given : Bool → Registers → ℕ → Bool → ℕ → ℕ → Memory → Tested
test_given crossed g code write level address m =
    unless (with_third crossed (test_checks g code level m)) (λ (n : ℕ). tested (Test.Refused n) []) (test_in_order g code write level address m)

-- ---- the plan
unfoldable pub test_refusal : Registers → ℕ → ℕ → Bool → Bool → ℕ
test_refusal g code level two crossed =
    refusal_of (checks_of (no_family g.family) (not030 g.family) (above_seven code || above_seven level) two crossed false)

unfoldable pub plan_test : Registers → ℕ → Bool → ℕ → ℕ → Bool → Bool → Plan
plan_test g code write level address two crossed =
    if eqb (test_refusal g code level two crossed) 0
    then if eqb level 0
    then Plan.Settled (Test.Status (flag (transparent030 g address code write) 0x0040) 0)
    else Plan.Walk030
    else Plan.Settled (Test.Refused (test_refusal g code level two crossed))

-- ---- the walk that a plan asks for, made
abbrev pub found_test : Memory → Registers → ℕ → ℕ → ℕ → Plan → Found
found_test m g code level address (plan.Settled t) = Found.Settled t
found_test m g code level address plan.Walk030 = Found.By030 (shown (walk030 m g address code level))

-- ---- and what it gives
pub record TestAnswered : Type 0 where
  pub answer : Test
  pub count : ℕ

abbrev pub test_answered : Test → ℕ → TestAnswered
test_answered t n = record { answer = t; count = n }

abbrev pub shown_tested : Tested → TestAnswered
shown_tested t = test_answered t.answer (length t.asked)

unfoldable pub concluded_test : ℕ → Found → TestAnswered
concluded_test code (found.Settled t) = test_answered t 0
concluded_test code (found.By030 w) =
    test_answered (Test.Status (mmusr_of code w.wp w.sup w.levels w.end) w.last) w.asked

-- a test's answer and its count
pub record TestedIn (t : TestAnswered) (answer : Test) (count : ℕ) : Type 0 where
  pub answers : answer ≡ t.answer
  pub counts : count ≡ t.count
