use Rattle.std.proofs.Common.{◌≤◌, ◌<◌, length, ℕ, ltb, lt-ltb, le-ltb, refl, arith}
use Rattle.std.proofs.lemmas.List.{take_all}
use Rattle.std.proofs.lemmas.List.Sums.{count_by_more_yes, count_by_more_no}
use Rattle.cache.specs.Atc030.{stamps_of}
use Rattle.cache.proofs.Parts.{stamp_get, stamps_22}
use Rattle.cache.proofs.Lists.{count_by_is}
use Rattle.cache.proofs.atc030.smaller.Goals as goal
use Rattle.cache.proofs.atc030.smaller.Goals.{then-c030-i, else-c030-i}

pub loop-i-preserved : goal.loop-i-preserved
loop-i-preserved c =
    let l = c.args.c030.now in
    let h = c.loop-i-test.true in
    let within : c.loop-i.i < length (stamps_of l) = omega (arith, h, stamps_22 l c.told-c030) in
    let same = stamp_get l c.loop-i.i h in
    elim c.if-c030-i.branch [
      | then-c030-i w ↦
          let one = count_by_more_yes (λ (y : ℕ). ltb y c.args.x) (stamps_of l) c.loop-i.i 0 within (rw (← same) (lt-ltb _ _ w.if-c030-i.true)) in
          (omega (arith, w.n-is, c.loop-i.invariant.0), rw (w.n-is, c.loop-i.invariant.1, one) refl)
      | else-c030-i w ↦
          let none = count_by_more_no (λ (y : ℕ). ltb y c.args.x) (stamps_of l) c.loop-i.i 0 within (rw (← same) (le-ltb _ _ w.if-c030-i.false)) in
          (omega (arith, w.n-is, c.loop-i.invariant.0), rw (w.n-is, c.loop-i.invariant.1, none) refl)
    ]

pub returns : goal.returns
returns c =
    let l = stamps_of c.args.c030.now in
    let all : length l ≤ c.loop-i.i = omega (arith, c.loop-i-test.false, stamps_22 c.args.c030.now c.told-c030) in
    rw (c.loop-i.invariant.1, take_all c.loop-i.i l all, count_by_is (λ (y : ℕ). ltb y c.args.x) l) refl
