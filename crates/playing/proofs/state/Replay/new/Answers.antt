use Rattle.playing.proofs.Driving.{none_kept}
use Rattle.playing.proofs.state.Replay.new.Goals as goal

pub invariant_of-result : goal.invariant_of-result
invariant_of-result c = record { uncrossed = none_kept c.first.result c.first.ensures.1 }
