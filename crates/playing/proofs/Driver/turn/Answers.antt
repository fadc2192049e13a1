use Rattle.std.proofs.lemmas.Result.{on_ok_weaker}
use Rattle.playing.proofs.Driving.{came}
use Rattle.playing.proofs.Driver.turn.Goals as goal

pub returns-in-Ok-Some : goal.returns-in-Ok-Some
returns-in-Ok-Some g c =
    let some = c.in-Ok-Some in
    record { comes = on_ok_weaker _ (came c.fill.ensures some.field-0 some.n some.is some.field-0-is) c.drain.ensures.plays }
