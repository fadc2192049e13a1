use Rattle.replay.proofs.Calling as law
use Rattle.replay.proofs.calls.access_line.Goals as goal

pub returns : goal.returns
returns c = law.of_translate _ _ _ _ _ (rw c.as_slice-ranges.ensures at c.translate-o.ensures) c.translation_line.ensures
