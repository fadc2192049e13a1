use Rattle.std.proofs.Common.{◌∙◌, nat_lt, slice_index_or}
use Rattle.vectors.proofs.Laws.{closes, too_large, more, over, closed_ahead}
use Rattle.vectors.proofs.read_number.Goals as goal

pub returns-in_default-clause-value : goal.returns-in_default-clause-value
returns-in_default-clause-value c = c.closed_by.ensures ∙ closes c.loop-i.invariant c.loop-i-test.true c.in_default.ensures

pub returns-in_default-clause-ahead : goal.returns-in_default-clause-ahead
returns-in_default-clause-ahead c =
    rw c.closed_by.ensures (closed_ahead (nat_lt c.args.c.at c.loop-i.i) c.loop-i.value (slice_index_or c.args.text.now c.loop-i.i 0) c.loop-i.i _ _ c.loop-i.auto.i c.loop-i-test.true)

pub returns-then-value-ge4294967296-clause-value :
    goal.returns-then-value-ge4294967296-clause-value
returns-then-value-ge4294967296-clause-value c =
    too_large c.loop-i.invariant c.loop-i-test.true c.in-Some.ensures c.if-value-ge4294967296.true

pub loop-i-preserved : goal.loop-i-preserved
loop-i-preserved c = more c.loop-i.invariant c.loop-i-test.true c.in-Some.ensures c.if-value-ge4294967296.false

pub returns-clause-value : goal.returns-clause-value
returns-clause-value c = over c.loop-i.invariant c.loop-i-test.false
