-- The loop of `walk_040`: what is known where a walk stands before a long, that each way out gives the definition's outcome, and that a turn that goes on keeps it. Assumes nothing.
use Prim.Native.Nat.{ℕ, ◌+◌, ◌*◌, ◌/◌, ◌%◌, ◌≤◌, ◌<◌}
use mathlib.Core.Path.{◌≡◌, refl, ap, sym, ◌∙◌}
use mathlib.Core.List.{List, [], ◌∷◌, ◌++◌}
use mathlib.Core.Bool.{Bool, true, false, not, ◌||◌}
use native.Mathlib.Omega.{arith}
use borrow.Author.Tests.{eqb-true}
use lib.Dec.{ltb, eqb}
use lib.ListN.{length, length-append}
use Rattle.std.specs.Prelude.{if◌then◌else◌, Option, Some, None}
use Rattle.definition.specs.Words.{bit_of}
use Rattle.definition.specs.Memory.{Memory, fetch_of}
use Rattle.definition.specs.Walk040.{Outcome040, ended040, asks, pointer_at, page_at, on_page, on_entry, walk040_from}
use Rattle.definition.specs.declared.End040.{End040}
use Rattle.definition.specs.declared.End040.TheVariants.{Resident, Absent, Lost}
use Rattle.definition.specs.declared.FaultCause.{FaultCause}
use Rattle.definition.specs.declared.FaultCause.TheVariants as cause
use Rattle.walk040.specs.Walked.{shown040}
use Rattle.walk040.specs.Machine.{begin040, invalid040, missing040, page040, next040, answered040}
use Rattle.walk040.specs.declared.machine.Level.{Level}
use Rattle.walk040.specs.declared.machine.Level.TheVariants as level
use Rattle.walk040.specs.declared.Walked040.{Walked040}
use Rattle.walk040.specs.declared.machine.Walking040.{Walking040}
use Rattle.memory.proofs.Tests.{clash}

-- how many longs can still be asked for
abbrev pub depth : Level → ℕ
depth level.Root = 4
depth level.Pointer = 3
depth level.Page = 2
depth level.Target = 1

-- a page, with W of the levels above it
abbrev resident : Bool → ℕ → End040
resident wp page = Resident page (wp || bit_of page 2) (bit_of page 7)

module _ (m : Memory) (tc first address : ℕ) where
  -- what the definition makes of a level's long, with W of the levels above it
  abbrev pub on_pointer_long : Bool → ℕ → List ℕ → Outcome040
  on_pointer_long wp x asked =
      if ltb (x % 4) 2
      then ended040 (Absent cause.PointerB) asked
      else asks m (page_at tc x address) asked (λ y ys. on_entry m (wp || bit_of x 2) y ys)

  abbrev pub on_level : Level → Bool → ℕ → List ℕ → Outcome040
  on_level level.Root wp x asked =
      if ltb (x % 4) 2
      then ended040 (Absent cause.PointerA) asked
      else asks m (pointer_at x address) asked (λ y ys. on_pointer_long (wp || bit_of x 2) y ys)
  on_level level.Pointer wp x asked = on_pointer_long wp x asked
  on_level level.Page wp x asked = on_entry m wp x asked
  on_level level.Target wp x asked = on_page wp cause.Indirect x asked

  -- the walk from here, after the longs asked for before
  abbrev pub rest : Walking040 → List ℕ → Outcome040
  rest s before = asks m s.at before (on_level s.level s.wp)

  -- what a long decides is what the definition makes of it
  abbrev Decides : Level → Bool → ℕ → ℕ → List ℕ → Type 0
  Decides l wp x n asked =
      on_level l wp x asked
      ≡ (if invalid040 l x
      then ended040 (Absent (missing040 l)) asked
      else if page040 l x then ended040 (resident wp x) asked else rest (next040 tc address l wp x n) asked)

  decides_target : (wp : Bool) (x n : ℕ) (asked : List ℕ) → Decides level.Target wp x n asked
  decides_target wp x n asked = go (eqb (x % 4) 0)
    where
      go : (b : Bool) → ended040 (if b then Absent cause.Indirect else resident wp x) asked
          ≡ (if b then ended040 (Absent cause.Indirect) asked else ended040 (resident wp x) asked)
      go true = refl
      go false = refl

  decides_page : (wp : Bool) (x n : ℕ) (asked : List ℕ) → Decides level.Page wp x n asked
  unfolding next040
  decides_page wp x n asked = go (asks m (x / 4 * 4) asked (λ y ys. on_page wp cause.Indirect y ys)) (eqb (x % 4) 0) refl (eqb (x % 4) 2) refl
    where
      go : (to : Outcome040) (a : Bool) → eqb (x % 4) 0 ≡ a → (b : Bool) → eqb (x % 4) 2 ≡ b
          → (if b then to else ended040 (if a then Absent cause.PageFault else resident wp x) asked)
          ≡ (if a then ended040 (Absent cause.PageFault) asked else if not b then ended040 (resident wp x) asked else to)
      go to true e true f = let h = eqb-true (x % 4) 0 e in let k = eqb-true (x % 4) 2 f in absurd (omega arith)
      go to true e false f = refl
      go to false e true f = refl
      go to false e false f = refl

  decides : (l : Level) (wp : Bool) (x n : ℕ) (asked : List ℕ) → Decides l wp x n asked
  unfolding next040
  decides level.Root wp x n asked = refl
  decides level.Pointer wp x n asked = refl
  decides level.Page wp x n asked = decides_page wp x n asked
  decides level.Target wp x n asked = decides_target wp x n asked

  -- a long that leads on leaves fewer to ask for
  deeper : (l : Level) (wp : Bool) (x n : ℕ) → page040 l x ≡ false → depth (next040 tc address l wp x n).level < depth l
  unfolding next040
  deeper level.Root wp x n h = omega arith
  deeper level.Pointer wp x n h = omega arith
  deeper level.Page wp x n h = omega arith
  deeper level.Target wp x n h = absurd (clash h)

  counts : (l : Level) (wp : Bool) (x n : ℕ) → (next040 tc address l wp x n).asked ≡ n
  unfolding next040
  counts level.Root wp x n = refl
  counts level.Pointer wp x n = refl
  counts level.Page wp x n = refl
  counts level.Target wp x n = refl

  abbrev pub whole : Outcome040
  whole = walk040_from m tc first address

  -- what is known at the loop's head, where the walk stands at s
  pub record Turn (s : Walking040) : Type 0 where
    pub before : List ℕ
    pub same : whole ≡ rest s before
    pub counted : length before ≡ s.asked
    pub room : s.asked + depth s.level ≤ 4

  -- where it begins
  pub begin : (s : Walking040) → s ≡ begin040 first → Turn s
  begin s e = record { before = []; same = rw e; counted = rw e; room = rw e (omega arith) }

  -- the long is asked for
  module _ (s : Walking040) (t : Turn s) where
    abbrev pub after : List ℕ
    after = t.before ++ (s.at ∷ [])

    after_length : length after ≡ s.asked + 1
    after_length = omega (arith, length-append t.before (s.at ∷ []), t.counted)

    -- what `next` and `answer` ask
    pub few : s.asked < 1000
    few = omega (arith, t.room)

    -- the walk ends here
    ended_so : (e : End040) → whole ≡ ended040 e after → {x : End040} → x ≡ e → {a : Walked040} → a ≡ answered040 s x → a ≡ shown040 whole
    ended_so e ew ex ea = ea ∙ rw (ex, ew, after_length)

    module _ {w : ℕ} (ew : w ≡ s.at) {f : Option ℕ} (ef : f ≡ fetch_of m w) where
      gave : fetch_of m s.at ≡ f
      gave = ap (fetch_of m) (sym ew) ∙ sym ef

      -- the way out at a bus error
      pub ends_lost : f ≡ None → {e : End040} → e ≡ Lost w → {a : Walked040} → a ≡ answered040 s e → a ≡ shown040 whole
      ends_lost h ee ea = ended_so (Lost s.at) (t.same ∙ rw (gave ∙ h)) (ee ∙ ap Lost ew) ea

      module _ {x : ℕ} (ex : f ≡ Some x) {i : Bool} (ei : i ≡ invalid040 s.level x) where
        decided : whole
            ≡ (if i
            then ended040 (Absent (missing040 s.level)) after
            else if page040 s.level x
            then ended040 (resident s.wp x) after
            else rest (next040 tc address s.level s.wp x (s.asked + 1)) after)
        decided = t.same ∙ rw (gave ∙ ex) (rw ei (decides s.level s.wp x (s.asked + 1) after))

        -- the way out at an invalid long
        pub ends_absent : i ≡ true → {c : FaultCause} → c ≡ missing040 s.level → {e : End040} → e ≡ Absent c → {a : Walked040} → a ≡ answered040 s e → a ≡ shown040 whole
        ends_absent hi ec ee ea = ended_so (Absent (missing040 s.level)) (decided ∙ rw hi) (ee ∙ ap Absent ec) ea

        module _ (hi : i ≡ false) {p : Bool} (ep : p ≡ page040 s.level x) where
          -- the way out at a page
          pub ends_page : p ≡ true → {wp : Bool} → wp ≡ (s.wp || bit_of x 2) → {sup : Bool} → sup ≡ bit_of x 7 → {e : End040} → e ≡ Resident x wp sup → {a : Walked040} → a ≡ answered040 s e
              → a ≡ shown040 whole
          ends_page hp ewp esup ee ea = ended_so (resident s.wp x) (decided ∙ rw (hi, sym ep ∙ hp)) (ee ∙ rw (ewp, esup)) ea

          -- the walk goes on
          module _ (hp : p ≡ false) {r : Walking040} (er : r ≡ next040 tc address s.level s.wp x (s.asked + 1)) where
            no_page : page040 s.level x ≡ false
            no_page = sym ep ∙ hp

            next_same : whole ≡ rest r after
            next_same = decided ∙ rw (hi, no_page, er)

            next_asked : r.asked ≡ s.asked + 1
            next_asked = rw er (counts s.level s.wp x (s.asked + 1))

            next_counted : length after ≡ r.asked
            next_counted = after_length ∙ sym next_asked

            pub less : depth r.level < depth s.level
            less = rw er (deeper s.level s.wp x (s.asked + 1) no_page)

            next_room : r.asked + depth r.level ≤ 4
            next_room = omega (arith, t.room, next_asked, less)

            pub next : Turn r
            next = record { before = after; same = next_same; counted = next_counted; room = next_room }
