-- What the parts of a test give together, and that its three stages are the definition. Assumes nothing.
use Prim.Native.Nat.{ℕ, ◌+◌, ◌%◌, ◌<◌}
use mathlib.Core.Path.{◌≡◌, refl, ap, sym, ◌∙◌}
use mathlib.Core.Bool.{Bool, true, false, not, ◌&&◌, ◌||◌}
use native.Mathlib.Nat.{mod-eq_of_lt}
use native.Mathlib.Omega.{arith}
use borrow.Author.Tests.{eq-eqb, ne_eqb}
use lib.Dec.{eqb}
use Rattle.std.specs.Prelude.{if◌then◌else◌}
use Rattle.definition.specs.Words.{bit_of}
use Rattle.definition.specs.Memory.{Memory}
use Rattle.definition.specs.Transparent.{transparent030}
use Rattle.definition.specs.Refusal.{no_family, not030, above_seven, bad_base, bad_range, refusal_of}
use Rattle.definition.specs.Test.{Tested, flag, end_flags, mmusr_of, test_in_order, test_checks, test}
use Rattle.definition.specs.declared.Registers.{Registers}
use Rattle.definition.specs.declared.Root.{Root}
use Rattle.definition.specs.declared.End.{End}
use Rattle.definition.specs.declared.End.TheVariants as end
use Rattle.definition.specs.declared.Test.{Test}
use Rattle.walk030.specs.declared.Walked.{Walked}
use Rattle.definition.specs.Registers.{root_of}
use Rattle.definition.specs.Walk030.{outcome_of}
use Rattle.walk030.specs.Walked.{shown}
use Rattle.walk030.proofs.Driving.{from_root}
use Rattle.checks.specs.Given.{checks_of, with_third}
use Rattle.test.specs.Tested.{test_given, test_refusal, plan_test, found_test, TestAnswered, shown_tested, concluded_test, TestedIn}
use Rattle.test.specs.declared.Plan.{Plan}
use Rattle.test.specs.declared.Plan.TheVariants as plan
use Rattle.test.specs.declared.Found.{Found}
use Rattle.test.specs.declared.Found.TheVariants as found

-- ---- the MMUSR fits in sixteen bits
end_fits : (e : End) → end_flags e % 65536 ≡ end_flags e
end_fits (end.Page field consumed) = refl
end_fits (end.Invalid indirect) = refl
end_fits end.LevelStop = refl
end_fits (end.BusError at) = refl
end_fits end.Config = refl

flag_fits : (b : Bool) (n : ℕ) → n < 65536 → flag b n % 65536 ≡ flag b n
flag_fits true n h = mod-eq_of_lt h
flag_fits false n h = refl

pub status_is : (code : ℕ) (w : Walked) {x y z : ℕ} → x ≡ end_flags w.end → y ≡ flag (w.sup && not (bit_of code 2)) 0x2000 → z ≡ flag w.wp 0x0800
    → x % 65536 + y % 65536 + z % 65536 + w.levels % 8 ≡ mmusr_of code w.wp w.sup w.levels w.end
status_is code w e f h =
    rw (e, f, h, end_fits w.end, flag_fits (w.sup && not (bit_of code 2)) 0x2000 (omega arith), flag_fits w.wp 0x0800 (omega arith)) refl

-- ---- the plan
module _ (g : Registers) (code level : ℕ) (two crossed : Bool) where
  pub test_refusal_is : {n : ℕ} {one six x y : Bool} → one ≡ no_family g.family → six ≡ not030 g.family → x ≡ above_seven code → y ≡ above_seven level
      → n ≡ refusal_of (checks_of one six (x || y) two crossed false) → n ≡ test_refusal g code level two crossed
  unfolding test_refusal
  test_refusal_is e s f h n = rw (← e, ← s, ← f, ← h) n

  module _ (write : Bool) (address : ℕ) {n : ℕ} (is : n ≡ test_refusal g code level two crossed) where
    pub test_refused : (n ≡ 0 → ⊥) → Plan.Settled (Test.Refused n) ≡ plan_test g code write level address two crossed
    unfolding plan_test
    test_refused h = rw (← is, ne_eqb n 0 h)

    pub test_level_0 : {b : Bool} {x : ℕ} → n ≡ 0 → level ≡ 0 → b ≡ transparent030 g address code write → x ≡ flag b 0x0040
        → Plan.Settled (Test.Status x 0) ≡ plan_test g code write level address two crossed
    unfolding plan_test
    test_level_0 e l b x = rw (sym is ∙ e, eq-eqb level 0 l, ← b, x) refl

    pub test_walks : n ≡ 0 → (level ≡ 0 → ⊥) → Plan.Walk030 ≡ plan_test g code write level address two crossed
    unfolding plan_test
    test_walks e l = rw (sym is ∙ e, ne_eqb level 0 l)

-- ---- the conclusion
module _ (code : ℕ) {f : Found} where
  pub concludes : {t : Test} → f ≡ found.Settled t → TestedIn (concluded_test code f) t 0
  unfolding concluded_test
  concludes e = rw e (record { answers = refl; counts = refl })

  pub concludes_030 : {w : Walked} {s : ℕ} → f ≡ found.By030 w → s ≡ mmusr_of code w.wp w.sup w.levels w.end
      → TestedIn (concluded_test code f) (Test.Status s w.last) w.asked
  unfolding concluded_test
  concludes_030 {w} e f = rw e (record { answers = ap (λ (s : ℕ). Test.Status s w.last) f; counts = refl })

-- ---- the three stages are the definition
module _ (g : Registers) (code : ℕ) (write : Bool) (level address : ℕ) (m : Memory) where
  abbrev pub finish_test : Plan → TestAnswered
  finish_test p = concluded_test code (found_test m g code level address p)

  test_if : (b : Bool) (x y : Plan) (t u : Tested) → finish_test x ≡ shown_tested t → finish_test y ≡ shown_tested u
      → finish_test (if b then x else y) ≡ shown_tested (if b then t else u)
  test_if true x y t u h k = h
  test_if false x y t u h k = k

  pub test_staged : (crossed : Bool) → finish_test (plan_test g code write level address (bad_base m) crossed) ≡ shown_tested (test_given crossed g code write level address m)
  unfolding test_given test_in_order plan_test test_refusal concluded_test
  test_staged crossed =
      test_if (eqb (refusal_of (with_third crossed (test_checks g code level m))) 0) _ _ _ _ (test_if (eqb level 0) _ _ _ _ refl refl) refl

  -- with the true word it is the call's definition
  pub given_true : {crossed : Bool} → crossed ≡ bad_range m → test_given crossed g code write level address m ≡ test g code write level address m
  unfolding test_given test
  given_true e = rw e

-- ---- the walk that a plan asks for
module _ (m : Memory) (g : Registers) (code level address : ℕ) (p : Plan) {f : Found} where
  pub settles : {t : Test} → p ≡ plan.Settled t → f ≡ Found.Settled t → f ≡ found_test m g code level address p
  settles e ef = ef ∙ ap (found_test m g code level address) (sym e)

  pub walks_030 : p ≡ plan.Walk030 → {tc : ℕ} → tc ≡ g.tc → {root : Root} → root ≡ root_of g code
      → {w : Walked} → w ≡ shown (outcome_of m tc root address code level) → f ≡ Found.By030 w → f ≡ found_test m g code level address p
  walks_030 e et er ew ef = ef ∙ ap Found.By030 (from_root m g address code level et er ew) ∙ ap (found_test m g code level address) (sym e)

-- ---- the call
pub tests : (g : Registers) (code : ℕ) (write : Bool) (level address : ℕ) (m : Memory) (crossed : Bool) {two : Bool} → two ≡ bad_base m
    → {p : Plan} → p ≡ plan_test g code write level address two crossed → {f : Found} → f ≡ found_test m g code level address p
    → {t : Test} {n : ℕ} → TestedIn (concluded_test code f) t n → TestedIn (shown_tested (test_given crossed g code write level address m)) t n
tests g code write level address m crossed is-two {p} k ef q =
    let plans : p ≡ plan_test g code write level address (bad_base m) crossed = rw (← is-two) k in
    rw (← test_staged g code write level address m crossed, ← plans, ← ef) q
