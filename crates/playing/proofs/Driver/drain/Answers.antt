use Rattle.std.proofs.Common.{refl, ◌≤◌, arith}
use Rattle.playing.specs.Driving.{state_in}
use Rattle.playing.proofs.Driving.{starts, one_more}
use Rattle.playing.proofs.Driver.drain.Goals as goal

pub loop-init : goal.loop-init
loop-init g c =
    let w = c.args.waiting.now in
    record { same = refl; within = omega arith; plays = starts (state_in c.args.self.now.replay) _ }

pub returns-in-Input : goal.returns-in-Input
returns-in-Input g c =
    let w = c.args.waiting.now in
    let held = c.loop.invariant in
    let at_within : c.loop.at ≤ w.have = rw held.same at held.within in
    let went = rw held.same at c.in_ok-ran.ensures.went in
    record {
      plays = rw (c.skip.ensures, held.same) (one_more c.loop.at w.have c.in_ok-ran.ran.read w.buffer at_within (omega arith) (state_in c.args.self.now.replay) (state_in c.loop.self.replay) (state_in c.run.new.self.replay) held.plays went);
    }

pub loop-preserved : goal.loop-preserved
loop-preserved g c =
    let w = c.args.waiting.now in
    let held = c.loop.invariant in
    let at_within : c.loop.at ≤ w.have = rw held.same at held.within in
    let went = rw held.same at c.in_ok-ran.ensures.went in
    record {
      same = held.same;
      within = omega (arith, c.in_ok-ran.ensures.within);
      plays = one_more c.loop.at w.have c.in_ok-ran.ran.read w.buffer at_within (omega arith) (state_in c.args.self.now.replay) (state_in c.loop.self.replay) (state_in c.run.new.self.replay) held.plays went;
    }
