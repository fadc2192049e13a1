use Rattle.std.proofs.lemmas.Result.{err_from_is_err_and}
use Rattle.vectors.proofs.Laws.{bad, cut, last_put, more_put, no_room}
use Rattle.vectors.proofs.read_row.Goals as goal

pub returns-in_err-number-clause-numbers_after : goal.returns-in_err-number-clause-numbers_after
returns-in_err-number-clause-numbers_after c =
    let p = err_from_is_err_and c.from_residual.result c.from_residual.ensures.1 in
    rw p.1 (bad c.loop-i.invariant c.loop-i-test.true c.in_err-number.ensures.value)

pub returns-in_default-clause-numbers_after : goal.returns-in_default-clause-numbers_after
returns-in_default-clause-numbers_after c = cut c.loop-i.invariant c.loop-i-test.true (rw c.in_default.is at c.in_ok-number.ensures.value)

pub returns-then-number-clause-numbers_after : goal.returns-then-number-clause-numbers_after
returns-then-number-clause-numbers_after c =
    last_put c.loop-i.invariant c.loop-i-test.true (rw c.in-Some.is at c.in_ok-number.ensures.value) c.if-number.true

pub loop-i-preserved : goal.loop-i-preserved
loop-i-preserved c =
    more_put c.loop-i.invariant c.loop-i-test.true (rw c.in-Some.is at c.in_ok-number.ensures.value) (rw c.in-Some.is at c.in_ok-number.ensures.ahead).0 c.if-number.false

pub returns-clause-numbers_after : goal.returns-clause-numbers_after
returns-clause-numbers_after c = no_room c.loop-i.invariant c.loop-i-test.false
