use Rattle.std.proofs.Common.{◌≡◌, ◌≤◌, drop}
use Rattle.playing.specs.Driving.{state_in, bytes_in, Plays}
use Rattle.playing.proofs.Driver.drain.Given as goal

abbrev pub invariant-loop : goal.invariant-loop
invariant-loop g l =
    record {
      same : l.waiting ≡ l.initial.waiting;
      within : l.at ≤ l.waiting.have;
      plays : Plays (state_in l.initial.self.replay) (bytes_in l.initial.waiting) (state_in l.self.replay) (drop l.at (bytes_in l.initial.waiting));
    }
