-- What the parts of a load give together, and that its three stages are the definition. Assumes nothing.
use Prim.Native.Nat.{ℕ, ◌%◌, ◌<◌}
use mathlib.Core.Path.{◌≡◌, refl, ap, sym, ◌∙◌}
use mathlib.Core.List.{List, []}
use mathlib.Core.Bool.{Bool, true, false, not}
use lib.ListN.{length}
use native.Mathlib.Omega.{arith}
use borrow.Author.Tests.{ne_eqb, eqb-true, ltb-false}
use lib.Dec.{eqb}
use Rattle.std.specs.Prelude.{if◌then◌else◌}
use Rattle.definition.specs.Registers.{on, root_of}
use Rattle.definition.specs.Memory.{Memory}
use Rattle.definition.specs.Transparent.{transparent030}
use Rattle.definition.specs.Walk030.{walk030, outcome_of, every_level, shift_of}
use Rattle.definition.specs.Cache030.{Cache030, flushed_page}
use Rattle.definition.specs.Cache040.{Cache040}
use Rattle.definition.specs.Refusal.{no_family, not030, above_seven, bad_base, bad_range, bad_cache, refusal_of}
use Rattle.definition.specs.Translate.{Caches, search030}
use Rattle.definition.specs.Load.{Loaded, loaded, stopped, searched_for, load_in_order, load_checks, load}
use Rattle.definition.specs.declared.Registers.{Registers}
use Rattle.definition.specs.declared.Root.{Root}
use Rattle.definition.specs.declared.Translation.{Translation}
use Rattle.definition.specs.declared.Load.{Load}
use Rattle.walk030.specs.declared.Walked.{Walked}
use Rattle.cache.specs.Atc030.{cache_of, Stepped}
use Rattle.cache.specs.Pair.{pair_with}
use Rattle.checks.proofs.Bounds.{in_three_bits}
use Rattle.search.specs.Searched.{end030, Ended}
use Rattle.checks.specs.Given.{checks_of, with_third}
use Rattle.search.proofs.Searching.{end030_asked}
use Rattle.load.specs.Loaded.{load_given, Planned, planned, load_plan, load_refusal, plan_load, PlannedIn, found_load, LoadEnded, shown_loaded, concluded_load, LoadedIn}
use Rattle.load.specs.declared.Plan.{Plan}
use Rattle.load.specs.declared.Plan.TheVariants as plan
use Rattle.load.specs.declared.Found.{Found}
use Rattle.load.specs.declared.Found.TheVariants as found
use Rattle.walk030.specs.Walked.{shown}
use Rattle.walk030.proofs.Driving.{from_root}

-- ---- the plan
module _ (g : Registers) (code : ℕ) (two crossed : Bool) where
  pub load_refusal_is : (c030 : List ℕ) {n : ℕ} {one six five four : Bool}
      → one ≡ no_family g.family → six ≡ not030 g.family → five ≡ above_seven code → four ≡ bad_cache (cache_of c030)
      → n ≡ refusal_of (checks_of one six five two crossed four) → n ≡ load_refusal g code two crossed (cache_of c030)
  unfolding load_refusal
  load_refusal_is c030 e s f h n = rw (← e, ← s, ← f, ← h) n

  module _ (write : Bool) (address : ℕ) {c030 : List ℕ} {n : ℕ} (is : n ≡ load_refusal g code two crossed (cache_of c030)) where
    pub load_refused : (n ≡ 0 → ⊥) → length c030 ≡ 69
        → PlannedIn (plan_load g code write address two crossed (cache_of c030)) (Plan.Settled (Load.Refused n)) c030
    unfolding plan_load
    load_refused h z = rw (← is, ne_eqb n 0 h) (record { plans = refl; leaves = refl; sized = z })

    pub load_off : {x : Bool} → n ≡ 0 → x ≡ on g → x ≡ false → length c030 ≡ 69
        → PlannedIn (plan_load g code write address two crossed (cache_of c030)) (Plan.Settled Load.Loaded) c030
    unfolding plan_load
    load_off e q h z = rw (sym is ∙ e, sym q ∙ h) (record { plans = refl; leaves = refl; sized = z })

    pub load_dropped : {x stop : Bool} {p : Plan} {c030' : List ℕ} → n ≡ 0 → x ≡ on g → x ≡ true
        → Stepped (λ (c : Cache030). flushed_page c code 7 address) c030 c030'
        → stop ≡ stopped (shift_of g.tc) (transparent030 g address code write) → p ≡ load_plan stop code
        → PlannedIn (plan_load g code write address two crossed (cache_of c030)) p c030'
    unfolding plan_load
    load_dropped e q h s t p =
        rw (sym is ∙ e, sym q ∙ h, ← t) (record { plans = p; leaves = s.leaves; sized = s.sized })

-- a load that walks has a code below 8
above_zero : (n : ℕ) → 0 < n → n ≡ 0 → ⊥
above_zero n h e = omega arith

below_eight : (one six five two three four : Bool) → refusal_of (checks_of one six five two three four) ≡ 0 → five ≡ false
unfolding refusal_of
below_eight true six five two three four e = absurd (above_zero 1 (omega arith) e)
below_eight false true five two three four e = absurd (above_zero 6 (omega arith) e)
below_eight false false true two three four e = absurd (above_zero 5 (omega arith) e)
below_eight false false false two three four e = refl

-- ---- the conclusion
module _ (tc address : ℕ) (write : Bool) {f : Found} where
  pub concludes : {l : Load} {c030 : List ℕ} → f ≡ found.Settled l → length c030 ≡ 69 → LoadedIn (concluded_load tc write address (cache_of c030) f) l 0 c030
  unfolding concluded_load
  concludes e z = rw e (record { answers = refl; counts = refl; leaves = refl; sized = z })

  pub concludes_030 : (c : Cache030) {code : ℕ} {w : Walked} {t : Translation} {c030 : List ℕ} → f ≡ found.By030 code w
      → Ended (end030 tc c (code % 8) address write w) t c030 → LoadedIn (concluded_load tc write address c f) Load.Loaded w.asked c030
  unfolding concluded_load
  concludes_030 c e k = rw e (record { answers = refl; counts = refl; leaves = k.leaves; sized = k.sized })

-- ---- the three stages are the definition
module _ (g : Registers) (code : ℕ) (write : Bool) (address : ℕ) (m : Memory) where
  abbrev pub finish_load : Planned → LoadEnded
  finish_load p = concluded_load g.tc write address p.cache (found_load m g address p.plan)

  load_if : (b : Bool) (x y : Planned) (t u : Loaded) → (b ≡ true → finish_load x ≡ shown_loaded t) → finish_load y ≡ shown_loaded u
      → finish_load (if b then x else y) ≡ shown_loaded (if b then t else u)
  load_if true x y t u h k = h refl
  load_if false x y t u h k = k

  dropped_staged : code < 8 → (c : Caches) (cache : Cache030) (stop : Bool)
      → finish_load (planned (load_plan stop code) cache)
      ≡ shown_loaded (if stop then loaded Load.Loaded [] cache c else searched_for (search030 g m cache code address write) c)
  unfolding search030 end030 concluded_load
  dropped_staged small c cache true = refl
  dropped_staged small c cache false =
      let o = walk030 m g address code every_level in
      rw (in_three_bits small, end030_asked g.tc cache code address write o.found.wp o.found.sup o.found.asked o.end)

  pub load_staged : (crossed : Bool) (c : Caches) → finish_load (plan_load g code write address (bad_base m) crossed c.c030) ≡ shown_loaded (load_given crossed g code write address m c)
  unfolding load_given load_in_order plan_load load_refusal concluded_load
  load_staged crossed c =
      load_if (eqb (refusal_of (with_third crossed (load_checks g code m c))) 0) _ _ _ _
      (λ h. load_if (not (on g)) _ _ _ _ (λ _. refl)
      (dropped_staged (small h) c (flushed_page c.c030 code 7 address) (stopped (shift_of g.tc) (transparent030 g address code write))))
      refl
    where
      small : eqb (refusal_of (with_third crossed (load_checks g code m c))) 0 ≡ true → code < 8
      small h =
          omega (arith, ltb-false 7 code (below_eight (no_family g.family) (not030 g.family) (above_seven code) (bad_base m) crossed (bad_cache c.c030) (eqb-true _ _ h)))

  -- with the true word it is the call's definition
  pub given_true : (c : Caches) {crossed : Bool} → crossed ≡ bad_range m → load_given crossed g code write address m c ≡ load g code write address m c
  unfolding load_given load
  given_true c e = rw e

  -- the 68040 cache stays
  pub load_beside : (c : Caches) → (load g code write address m c).caches.c040 ≡ c.c040
  unfolding load load_in_order
  load_beside c =
      stays (eqb (refusal_of (load_checks g code m c)) 0) _ _
      (stays (not (on g)) _ _ refl (stays (stopped (shift_of g.tc) (transparent030 g address code write)) _ _ refl refl)) refl
    where
      stays : (b : Bool) (x y : Loaded) → x.caches.c040 ≡ c.c040 → y.caches.c040 ≡ c.c040 → (if b then x else y).caches.c040 ≡ c.c040
      stays true x y h k = h
      stays false x y h k = k

-- ---- the walk that a plan asks for
module _ (m : Memory) (g : Registers) (address : ℕ) (p : Plan) {f : Found} where
  pub settles : {l : Load} → p ≡ plan.Settled l → f ≡ Found.Settled l → f ≡ found_load m g address p
  settles e ef = ef ∙ ap (found_load m g address) (sym e)

  pub walks_030 : {code : ℕ} → p ≡ plan.Walk030 code → {limit : ℕ} → limit ≡ every_level
      → {tc : ℕ} → tc ≡ g.tc → {root : Root} → root ≡ root_of g code
      → {w : Walked} → w ≡ shown (outcome_of m tc root address code limit) → f ≡ Found.By030 code w → f ≡ found_load m g address p
  walks_030 {code} e el et er ew ef = ef ∙ ap (Found.By030 code) (from_root m g address code _ et er ew ∙ rw el) ∙ ap (found_load m g address) (sym e)

-- ---- the call
pub loads : (g : Registers) (code : ℕ) (write : Bool) (address : ℕ) (m : Memory) (c : Cache030) (crossed : Bool) {two : Bool} → two ≡ bad_base m
    → {p : Plan} {c030 : List ℕ} → PlannedIn (plan_load g code write address two crossed c) p c030 → {f : Found} → f ≡ found_load m g address p
    → {l : Load} {n : ℕ} {c030' : List ℕ} → LoadedIn (concluded_load g.tc write address (cache_of c030) f) l n c030'
    → (k : Cache040) → LoadedIn (shown_loaded (load_given crossed g code write address m (pair_with c k))) l n c030'
loads g code write address m c crossed is-two {p} {c030} k ef q other =
    let planned : PlannedIn (plan_load g code write address (bad_base m) crossed c) p c030 = rw (← is-two) k in
    rw (← load_staged g code write address m crossed (pair_with c other), ← planned.plans, ← planned.leaves, ← ef) q
