use Rattle.replay.proofs.Calling as law
use Rattle.replay.proofs.calls.test_call.Goals as goal

pub returns : goal.returns
returns c = law.of_test _ _ _ _ _ _ _ (rw c.as_slice-ranges.ensures at c.test-o.ensures) c.test_line.ensures
