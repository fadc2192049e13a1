-- The three stages are the definition: what is concluded from the plan and its walk is the call's answer, count and next caches. Assumes nothing.
use Prim.Native.Nat.{ℕ, ◌/◌, ◌^◌}
use mathlib.Core.Path.{◌≡◌, refl}
use mathlib.Core.List.{List}
use mathlib.Core.Bool.{Bool, true, false, not, ◌&&◌}
use lib.Dec.{eqb}
use Rattle.std.specs.Prelude.{if◌then◌else◌, Option, Some, None}
use Rattle.definition.specs.Registers.{on, as_supervisor, as_instruction, walk_code, compared_code}
use Rattle.definition.specs.Memory.{Memory}
use Rattle.definition.specs.Transparent.{transparent}
use Rattle.definition.specs.Walk030.{walk030, every_level, shift_of}
use Rattle.definition.specs.Walk040.{walk040, page_bits}
use Rattle.definition.specs.Cache030.{hit_of, after_hit}
use Rattle.definition.specs.Cache040.{Cache040, hit040}
use Rattle.definition.specs.Refusal.{bad_base, bad_range, refusal_of}
use Rattle.definition.specs.Translate.{Caches, Translated, translated, search030, on_hit030, with030, beside, translate030, on_end040, on_hit040, translate040, in_order, translate_checks, translate}
use Rattle.definition.specs.declared.Registers.{Registers}
use Rattle.definition.specs.declared.Access.{Access}
use Rattle.definition.specs.declared.End040.{End040}
use Rattle.definition.specs.declared.End040.TheVariants as end040'
use Rattle.definition.specs.declared.Translation.{Translation}
use Rattle.checks.specs.Given.{with_third}
use Rattle.checks.proofs.Bounds.{in_three_bits}
use Rattle.search.specs.Searched.{end030}
use Rattle.search.proofs.Searching.{end030_asked}
use Rattle.translate.specs.Stages.{translate_given, Planned, planned, with030_of, with040_of, beside_plan, look_plan, plan030, look_plan040, plan040, plan_on, access_refusal, plan_access, Answered, shown_translated, Searched040, searched040, resident040, end040, after030, after040, found_of, concluded_of}
use Rattle.translate.specs.declared.Plan.{Plan}
use Rattle.translate.proofs.Planning.{walk_small}

-- ---- an end's answer and cache don't depend on what was asked for
module _ (g : Registers) (a : Access) (c : Caches) (asked : List ℕ) where
  -- the code's end of a 68040 walk
  abbrev found040 : End040 → Searched040
  found040 e = end040 g.tc c.c040 a.address (as_supervisor a) a.write e

  end040_asked : (e : End040) → on_end040 g a c asked e ≡ translated (found040 e).answer asked (with040_of c (found040 e).cache)
  unfolding end040 resident040
  end040_asked (end040'.Resident field wp sup) = go (a.write && wp) (not (as_supervisor a) && sup) _ _ _ _
    where
      go : (b d : Bool) (x y z : Translation) (k : Cache040)
          → (if b then translated x asked c else if d then translated y asked c else translated z asked (with040_of c k))
          ≡ translated (if b then searched040 x c.c040 else if d then searched040 y c.c040 else searched040 z k).answer asked
          (with040_of c (if b then searched040 x c.c040 else if d then searched040 y c.c040 else searched040 z k).cache)
      go true d x y z k = refl
      go false true x y z k = refl
      go false false x y z k = refl
  end040_asked (end040'.Absent missing) = refl
  end040_asked (end040'.Lost at) = refl

-- ---- translate
module _ (g : Registers) (a : Access) (m : Memory) where
  -- what is concluded from a plan and its walk
  abbrev pub finish : Planned → Answered
  finish p = concluded_of g a p.caches (found_of m g a p.plan)

  finish_if : (b : Bool) (x y : Planned) (t u : Translated) → finish x ≡ shown_translated t → finish y ≡ shown_translated u
      → finish (if b then x else y) ≡ shown_translated (if b then t else u)
  finish_if true x y t u h k = h
  finish_if false x y t u h k = k

  search_staged : (c : Caches) → finish (planned (Plan.Walk030 (walk_code a)) c) ≡ shown_translated (beside c (search030 g m c.c030 (walk_code a) a.address a.write))
  unfolding search030 end030 after030 concluded_of
  search_staged c =
      let o = walk030 m g a.address (walk_code a) every_level in
      rw (in_three_bits (walk_small a refl), end030_asked g.tc c.c030 (walk_code a) a.address a.write o.found.wp o.found.sup o.found.asked o.end)

  hit030_staged : (c : Caches) (shift : ℕ) (h : Option ℕ) → finish (planned (look_plan (walk_code a) a.address shift h) c) ≡ shown_translated (beside c (on_hit030 g m c.c030 (walk_code a) a.address a.write shift h))
  unfolding concluded_of
  hit030_staged c shift (Some base) = refl
  hit030_staged c shift None = search_staged c

  with030_staged : (c : Caches) (s : Option ℕ) → finish (beside_plan c (plan030 c.c030 a.recorded (walk_code a) a.address a.write s)) ≡ shown_translated (beside c (with030 g m c.c030 a.recorded (walk_code a) a.address a.write s))
  with030_staged c None = search_staged c
  with030_staged c (Some shift) =
      hit030_staged (with030_of c (after_hit c.c030 a.recorded (walk_code a) (a.address / 2 ^ shift) shift)) shift
      (hit_of c.c030 (walk_code a) (a.address / 2 ^ shift) shift a.write)

  translate030_staged : (c : Caches) → finish (beside_plan c (plan030 c.c030 a.recorded (walk_code a) a.address a.write (shift_of g.tc))) ≡ shown_translated (translate030 g a m c)
  unfolding translate030
  translate030_staged c = with030_staged c (shift_of g.tc)

  hit040_staged : (c : Caches) (h : Option ℕ) → finish (planned (look_plan040 g.tc a.address (as_supervisor a) h) c) ≡ shown_translated (on_hit040 g a m c h)
  unfolding after040 concluded_of
  hit040_staged c (Some base) = refl
  hit040_staged c None =
      let o = walk040 m g a.address (as_supervisor a) in rw (end040_asked g a c o.asked o.end)

  translate040_staged : (c : Caches) → finish (planned (plan040 g.tc c.c040 a.address (as_supervisor a) a.write) c) ≡ shown_translated (translate040 g a m c)
  unfolding translate040
  translate040_staged c = hit040_staged c (hit040 c.c040 (a.address / 2 ^ page_bits g.tc) (as_supervisor a) a.write)

  pub translate_staged : (crossed : Bool) (c : Caches) → finish (plan_access g a (bad_base m) crossed c) ≡ shown_translated (translate_given crossed g a m c)
  unfolding translate_given in_order plan_access plan_on access_refusal concluded_of
  translate_staged crossed c =
      finish_if (eqb (refusal_of (with_third crossed (translate_checks g a m c))) 0) _ _ _ _
      (finish_if (not (on g)) _ _ _ _ refl
      (finish_if (transparent g a.address (compared_code a) (as_instruction a) a.write) _ _ _ _ refl
      (finish_if (eqb g.family 30) _ _ _ _ (translate030_staged c) (translate040_staged c))))
      refl

  -- with the true word it is the call's definition
  pub given_true : (c : Caches) {crossed : Bool} → crossed ≡ bad_range m → translate_given crossed g a m c ≡ translate g a m c
  unfolding translate_given translate
  given_true c e = rw e
