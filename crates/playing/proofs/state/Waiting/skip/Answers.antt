use Rattle.std.proofs.Common.{arith}
use Rattle.playing.proofs.Driving.{moved}
use Rattle.playing.proofs.state.Waiting.skip.Goals as goal

pub returns : goal.returns
returns c =
    let w = c.args.self.now in
    rw c.copy_within.ensures.after (moved c.args.at w.have w.buffer c.requires (omega arith))
