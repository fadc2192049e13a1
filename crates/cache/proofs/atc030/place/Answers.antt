use Rattle.std.proofs.Common.{◌≡◌, ◌+◌, ◌∙◌, sym, eq-eqb, ne_eqb, arith}
use Rattle.cache.specs.Atc030.{tags_of, stamps_of}
use Rattle.cache.proofs.Flags.{odd_valid, even_invalid}
use Rattle.cache.proofs.Parts.{tag_get, stamp_get, tags_22, stamps_22}
use Rattle.cache.proofs.Victim.{Seen, seen_start, first_invalid, later_invalid, valid_older, valid_kept, same_place, last_place, last_within}
use Rattle.cache.proofs.atc030.place.Goals as goal
use Rattle.cache.proofs.atc030.place.Goals.{Joined-t-eq1, then-t-eq1+then-x-low, then-t-eq1+else-x-low, else-t-eq1+then-is_none, else-t-eq1+else-is_none}

-- a turn, by each of the four ways through it
next : (c : Joined-t-eq1) → Seen (tags_of c.args.c030.now) (stamps_of c.args.c030.now) c.args.key (c.loop-invalid.i + 1) c.if-t-eq1.invalid c.if-t-eq1.oldest c.if-t-eq1.low
next c =
    let l = c.args.c030.now in
    let i = c.loop-invalid.i in
    let h = c.loop-invalid.invariant.0 in
    let s = c.loop-invalid.invariant.1 in
    let a = tag_get l i h in
    let d = stamp_get l i h in
    let o = ne_eqb _ _ (λ e. c.if-t-key.false (sym e)) in
    elim c.if-t-eq1.branch [
      | then-t-eq1+then-x-low w ↦ rw (w.invalid-is, w.oldest-is, w.low-is) (valid_older _ _ _ i _ _ _ h a o _ _ (odd_valid _ w.if-t-eq1.true) d w.if-x-low.true s)
      | then-t-eq1+else-x-low w ↦ rw (w.invalid-is, w.oldest-is, w.low-is) (valid_kept _ _ _ i _ _ _ h a o _ _ (odd_valid _ w.if-t-eq1.true) d w.if-x-low.false s)
      | else-t-eq1+then-is_none w ↦ rw (w.invalid-is, w.oldest-is, w.low-is) (first_invalid _ _ _ i _ _ _ h a o _ w.if-is_none.ensures (even_invalid _ w.if-t-eq1.false) s)
      | else-t-eq1+else-is_none w ↦ rw (w.invalid-is, w.oldest-is, w.low-is) (later_invalid _ _ _ i _ _ _ h a o _ w.if-is_none.ensures s)
    ]

pub loop-invalid-init : goal.loop-invalid-init
loop-invalid-init c = (omega arith, seen_start _ _ _ _ (stamp_get _ 0 (omega arith)))

pub returns-then-t-key : goal.returns-then-t-key
returns-then-t-key c =
    let l = c.args.c030.now in
    let h = c.loop-invalid.invariant.0 in
    (same_place _ _ _ (tags_22 l c.told-c030) _ _ h (tag_get l _ h) (eq-eqb _ _ (sym c.if-t-key.true)) c.loop-invalid.invariant.1.others, h)

pub returns-then-i-eq21 : goal.returns-then-i-eq21
returns-then-i-eq21 c =
    let l = c.args.c030.now in
    let n : c.loop-invalid.i + 1 ≡ 22 = omega arith in
    let s = rw n at (next (goal.at.returns-then-i-eq21 c).Joined-t-eq1) in
    (c.unwrap_or.ensures ∙ last_place _ _ _ (tags_22 l c.told-c030) (stamps_22 l c.told-c030) _ _ _ s, rw c.unwrap_or.ensures (last_within _ _ _ _ _ _ s))

pub loop-invalid-preserved : goal.loop-invalid-preserved
loop-invalid-preserved c = (omega arith, next (goal.at.loop-invalid-preserved c).Joined-t-eq1)
