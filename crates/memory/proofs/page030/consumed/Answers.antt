use Rattle.std.proofs.Common.{◌≡◌, ℕ, ◌<◌, List, length, get_or, ap, arith}
use Rattle.definition.specs.Walk030.{sum_of, widths_of}
use Rattle.memory.proofs.Widths.{used_more, width_small}
use Rattle.memory.proofs.page030.consumed.Goals as goal

pub overflow_add-sum : goal.overflow_add-sum
overflow_add-sum c =
    let w : get_or c.widths.result c.loop-w.w-index 0 < 16 = rw c.widths.ensures (width_small c.args.tc c.loop-w.w-index) in
    record { fits = omega (arith, w) }

pub loop-w-preserved : goal.loop-w-preserved
unfolding widths_of
loop-w-preserved c =
    let k = c.loop-w.w-index in
    let same : get_or c.widths.result k 0 ≡ get_or (widths_of c.args.tc) k 0 = ap (λ (l : List ℕ). get_or l k 0) c.widths.ensures in
    let few : k < length (widths_of c.args.tc) = omega arith in
    let more = used_more (widths_of c.args.tc) k few (λ z. c.if-w-eq0.false (omega (arith, same))) in
    record { small = omega (arith, same, width_small c.args.tc k); same = omega (arith, same, ap sum_of more, c.loop-w.invariant.same) }
