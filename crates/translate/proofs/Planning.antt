-- What the parts of a translation's plan give together. Assumes nothing.
use Rattle.std.specs.Prelude.{Option, Some, None}
use Prim.Native.Nat.{ℕ, ◌/◌, ◌%◌, ◌^◌, ◌<◌}
use mathlib.Core.Path.{◌≡◌, refl, ap, sym, ◌∙◌}
use mathlib.Core.List.{List}
use mathlib.Core.Bool.{Bool, true, false, not}
use lib.ListN.{length}
use borrow.Author.Tests.{eq-eqb, ne_eqb}
use Rattle.definition.specs.Registers.{on, as_supervisor, as_instruction, walk_code, compared_code}
use Rattle.definition.specs.Transparent.{transparent}
use Rattle.definition.specs.Walk030.{shift_of}
use Rattle.definition.specs.Walk040.{page_bits}
use Rattle.definition.specs.Cache040.{hit040}
use Rattle.definition.specs.Refusal.{no_family, bad_override, bad_cache, refusal_of}
use Rattle.definition.specs.Translate.{Caches}
use Rattle.definition.specs.declared.Registers.{Registers}
use Rattle.definition.specs.declared.Access.{Access}
use Rattle.definition.specs.declared.Translation.{Translation}
use Rattle.cache.specs.Atc030.{cache_of, Looked}
use Rattle.cache.specs.Atc040.{cache040_of}
use Rattle.translate.specs.declared.Plan.{Plan}
use Rattle.checks.specs.Given.{checks_of}
use Rattle.translate.specs.Stages.{settled_at, look_plan, plan030, look_plan040, plan_on, access_refusal, plan_access}
use Rattle.cache.specs.Pair.{caches_of, SizedAll}
use Rattle.checks.proofs.Bounds.{code_small, in_three_bits}
use Rattle.translate.specs.InPlace.{PlannedIn030, PlannedIn}

-- ---- the 68030 cache
module _ {a : List ℕ} (code address : ℕ) {r s : Option ℕ} (is : r ≡ s) (write recorded : Bool) where
  pub plan_none : r ≡ None → length a ≡ 69 → PlannedIn030 (plan030 (cache_of a) recorded code address write s) (Plan.Walk030 code) a
  plan_none none z = rw (sym is ∙ none) (record { plans = refl; leaves = refl; sized = z })

  pub plan_look : {shift : ℕ} {hit : Option ℕ} {p : Plan} {a' : List ℕ} → code < 8 → r ≡ Some shift
      → Looked a (code % 8) (address / 2 ^ shift) shift write recorded hit a' → p ≡ look_plan code address shift hit
      → PlannedIn030 (plan030 (cache_of a) recorded code address write s) p a'
  plan_look {shift} {hit} {p} {a'} small some k q =
      let looked : Looked a code (address / 2 ^ shift) shift write recorded hit a' = rw (← in_three_bits small) k in
      rw (sym is ∙ some)
      (record { plans = q ∙ ap (look_plan code address shift) looked.answers; leaves = looked.steps.leaves; sized = k.steps.sized })

-- ---- the transparent registers and the caches
-- the walk's code is below 8
pub walk_small : (a : Access) {code : ℕ} → code ≡ walk_code a → code < 8
walk_small a e = rw e (code_small (as_supervisor a) (as_instruction a))

module _ (g : Registers) (a : Access) {c030 c040 : List ℕ} (z : SizedAll c030 c040) {code : ℕ} {i t : Bool}
    (compared : code ≡ compared_code a) (instruction : i ≡ as_instruction a) (is-tt : t ≡ transparent g a.address code i a.write) where
  -- whether a transparent register matches
  matched : {b : Bool} → t ≡ b → transparent g a.address (compared_code a) (as_instruction a) a.write ≡ b
  matched e = rw (← compared, ← instruction) (sym is-tt ∙ e)

  pub plan_transparent : t ≡ true → PlannedIn (plan_on g a (caches_of c030 c040)) (settled_at a.address) c030 c040
  unfolding plan_on
  plan_transparent k = rw (matched k) (record { plans = refl; leaves = refl; whole = z })

  pub plan_by_030 : {own : ℕ} {r : Plan} {c030' : List ℕ} → t ≡ false → g.family ≡ 30 → own ≡ walk_code a
      → PlannedIn030 (plan030 (cache_of c030) a.recorded (own % 8) a.address a.write (shift_of g.tc)) r c030'
      → PlannedIn (plan_on g a (caches_of c030 c040)) r c030' c040
  unfolding plan_on
  plan_by_030 {own} {r} {c030'} k f w p =
      let q : PlannedIn030 (plan030 (cache_of c030) a.recorded own a.address a.write (shift_of g.tc)) r c030' = rw (← in_three_bits (walk_small a w)) p in
      rw (matched k, eq-eqb g.family 30 f, ← w)
      (record { plans = q.plans; leaves = rw q.leaves refl; whole = record { sized = q.sized; sized040 = z.sized040 } })

  pub plan_by_040 : {s : Bool} {r : Plan} → t ≡ false → (g.family ≡ 30 → ⊥) → s ≡ as_supervisor a
      → r ≡ look_plan040 g.tc a.address s (hit040 (cache040_of c040) (a.address / 2 ^ page_bits g.tc) s a.write)
      → PlannedIn (plan_on g a (caches_of c030 c040)) r c030 c040
  unfolding plan_on
  plan_by_040 k f w p =
      rw (matched k, ne_eqb g.family 30 f, ← w) (record { plans = p; leaves = refl; whole = z })

-- ---- the refusals
pub refusal_is : (g : Registers) (a : Access) (two crossed : Bool) (c030 : List ℕ) {n : ℕ} {one five four : Bool}
    → one ≡ no_family g.family → five ≡ bad_override a.code → four ≡ bad_cache (cache_of c030)
    → n ≡ refusal_of (checks_of one false five two crossed four) → n ≡ access_refusal g a two crossed (cache_of c030)
unfolding access_refusal
refusal_is g a two crossed c030 e f h n = rw (← e, ← f, ← h) n

module _ (g : Registers) (a : Access) (two crossed : Bool) {n : ℕ} where
  pub plan_refused : {c030 c040 : List ℕ} → n ≡ access_refusal g a two crossed (cache_of c030) → (n ≡ 0 → ⊥) → SizedAll c030 c040
      → PlannedIn (plan_access g a two crossed (caches_of c030 c040)) (Plan.Settled (Translation.Refused n)) c030 c040
  unfolding plan_access
  plan_refused is h z = rw (← is, ne_eqb n 0 h) (record { plans = refl; leaves = refl; whole = z })

  pub plan_off : {x : Bool} {c030 c040 : List ℕ} → n ≡ access_refusal g a two crossed (cache_of c030) → n ≡ 0 → x ≡ on g → x ≡ false
      → SizedAll c030 c040 → PlannedIn (plan_access g a two crossed (caches_of c030 c040)) (settled_at a.address) c030 c040
  unfolding plan_access
  plan_off is e is-on h z = rw (sym is ∙ e, ap not (sym is-on ∙ h)) (record { plans = refl; leaves = refl; whole = z })

  pub plan_goes_on : (c : Caches) {x : Bool} {r : Plan} {c030 c040 : List ℕ} → n ≡ access_refusal g a two crossed c.c030 → n ≡ 0 → x ≡ on g → x ≡ true
      → PlannedIn (plan_on g a c) r c030 c040 → PlannedIn (plan_access g a two crossed c) r c030 c040
  unfolding plan_access
  plan_goes_on c is e is-on h p = rw (sym is ∙ e, ap not (sym is-on ∙ h)) p
