use Rattle.whole.proofs.Showing.{closed, from_start}
use Rattle.whole.proofs.play_records.Goals as goal

pub returns : goal.returns
returns c = closed _ _ (from_start _ c.first.ensures c.run-ran.ensures.0) c.last_line.auto.out _ c.last_line.ensures
