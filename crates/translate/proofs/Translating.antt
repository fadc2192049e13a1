-- From a plan and its walk to the call. Assumes nothing.
use Prim.Native.Nat.{ℕ}
use mathlib.Core.Path.{◌≡◌, ap, sym, ◌∙◌}
use mathlib.Core.List.{List}
use mathlib.Core.Bool.{Bool}
use Rattle.definition.specs.Memory.{Memory}
use Rattle.definition.specs.Refusal.{bad_base}
use Rattle.definition.specs.Registers.{root_of}
use Rattle.definition.specs.Walk030.{every_level, outcome_of}
use Rattle.definition.specs.Walk040.{walk040}
use Rattle.definition.specs.Translate.{Caches}
use Rattle.definition.specs.declared.Registers.{Registers}
use Rattle.definition.specs.declared.Root.{Root}
use Rattle.definition.specs.declared.Access.{Access}
use Rattle.definition.specs.declared.Translation.{Translation}
use Rattle.walk030.specs.Walked.{shown}
use Rattle.walk030.specs.declared.Walked.{Walked}
use Rattle.walk030.proofs.Driving.{from_root}
use Rattle.walk040.specs.Walked.{shown040}
use Rattle.walk040.specs.declared.Walked040.{Walked040}
use Rattle.cache.specs.Pair.{caches_of}
use Rattle.translate.specs.Stages.{translate_given, plan_access, shown_translated, found_of, concluded_of}
use Rattle.translate.specs.InPlace.{PlannedIn, AnsweredIn}
use Rattle.translate.specs.declared.Plan.{Plan}
use Rattle.translate.specs.declared.Plan.TheVariants as plan
use Rattle.translate.specs.declared.Found.{Found}
use Rattle.translate.proofs.Staged.{translate_staged}

-- ---- the walk that a plan asks for
module _ (m : Memory) (g : Registers) (a : Access) (p : Plan) {f : Found} where
  pub settles : {t : Translation} → p ≡ plan.Settled t → f ≡ Found.Settled t → f ≡ found_of m g a p
  settles e ef = ef ∙ ap (found_of m g a) (sym e)

  pub walks_030 : {code : ℕ} → p ≡ plan.Walk030 code → {address : ℕ} → address ≡ a.address → {limit : ℕ} → limit ≡ every_level
      → {tc : ℕ} → tc ≡ g.tc → {root : Root} → root ≡ root_of g code
      → {w : Walked} → w ≡ shown (outcome_of m tc root address code limit) → f ≡ Found.By030 code w → f ≡ found_of m g a p
  walks_030 {code} e ea el et er ew ef = ef ∙ ap (Found.By030 code) (from_root m g _ code _ et er ew ∙ rw (ea, el)) ∙ ap (found_of m g a) (sym e)

  pub walks_040 : {supervisor : Bool} → p ≡ plan.Walk040 supervisor → {address : ℕ} → address ≡ a.address
      → {w : Walked040} → w ≡ shown040 (walk040 m g address supervisor) → f ≡ Found.By040 supervisor w → f ≡ found_of m g a p
  walks_040 {supervisor} e ea ew ef = ef ∙ ap (Found.By040 supervisor) (ew ∙ rw ea) ∙ ap (found_of m g a) (sym e)

-- ---- the call
pub translates : (g : Registers) (a : Access) (m : Memory) (c : Caches) (crossed : Bool) {two : Bool} → two ≡ bad_base m
    → {p : Plan} {c030 c040 : List ℕ} → PlannedIn (plan_access g a two crossed c) p c030 c040 → {f : Found} → f ≡ found_of m g a p
    → {t : Translation} {n : ℕ} {c030' c040' : List ℕ} → AnsweredIn (concluded_of g a (caches_of c030 c040) f) t n c030' c040'
    → AnsweredIn (shown_translated (translate_given crossed g a m c)) t n c030' c040'
translates g a m c crossed is-two {p} {c030} {c040} k ef q =
    let planned : PlannedIn (plan_access g a (bad_base m) crossed c) p c030 c040 = rw (← is-two) k in
    rw (← translate_staged g a m crossed c, ← planned.plans, ← planned.leaves, ← ef) q
