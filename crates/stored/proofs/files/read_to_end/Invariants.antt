use Rattle.std.proofs.Common.{length, ◌-◌, ◌≤◌}
use Rattle.stored.proofs.files.read_to_end.Given as goal

abbrev pub invariant-loop-have : goal.invariant-loop-have
invariant-loop-have g l = l.have ≤ length l.buffer

abbrev pub decreases-loop-have : goal.decreases-loop-have
decreases-loop-have g l = length l.initial.buffer - l.have
