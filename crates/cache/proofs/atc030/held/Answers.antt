use Rattle.std.proofs.Common.{◌≡◌, sym, ◌∙◌, eq-eqb, ne_eqb, get_or, arith}
use Rattle.std.proofs.Math.ListN.{get_or-eq_default}
use Rattle.cache.specs.Atc030.{tags_of, recent_in, match_in, held_in}
use Rattle.cache.proofs.Parts.{tag_get, tags_22}
use Rattle.cache.proofs.atc030.held.Goals as goal
use Rattle.cache.proofs.atc030.held.Goals.{else-recent-lt22-via-then-recent-lt22+else-c030-recent, else-recent-lt22-via-else-recent-lt22}

pub returns-then-c030-shift : goal.returns-then-c030-shift
unfolding held_in
returns-then-c030-shift c = rw (ne_eqb _ _ c.if-c030-shift.true) (omega arith)

pub returns-then-c030-recent : goal.returns-then-c030-recent
unfolding held_in match_in
returns-then-c030-recent c =
    let e = sym (c.if-c030-recent.true ∙ c.key_of-key.ensures) ∙ tag_get _ _ c.if-recent-lt22.true in
    (rw (eq-eqb _ _ c.if-c030-shift.false, eq-eqb _ _ e), c.if-recent-lt22.true)

pub returns : goal.returns
unfolding held_in match_in
returns c =
    let l = c.args.c030.now in
    let k = c.key_of-key.ensures in
    let n : c.key_of-key.result ≡ get_or (tags_of l) (recent_in l) 0 → ⊥ = elim c.else-recent-lt22.branch [
      | else-recent-lt22-via-then-recent-lt22+else-c030-recent w ↦ λ e. w.if-c030-recent.false (tag_get l _ w.if-recent-lt22.true ∙ sym e)
      | else-recent-lt22-via-else-recent-lt22 w ↦ λ e. omega (arith, k, get_or-eq_default (tags_of l) 0 {n = recent_in l} (omega (arith, tags_22 l c.told-c030, w.if-recent-lt22.false)))
    ] in
    rw (eq-eqb _ _ c.if-c030-shift.false, ← k, ne_eqb _ _ n) c.first_with.ensures
