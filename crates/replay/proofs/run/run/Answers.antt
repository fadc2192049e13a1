use Rattle.std.proofs.Common.{◌∙◌, ◌≡◌, ◌-◌, arith, refl, sym, length, drop}
use Rattle.trace.proofs.Writes as writes
use Rattle.replay.specs.Playing.{Stands}
use Rattle.replay.proofs.Running as law
use Rattle.replay.proofs.run.run.Goals.{then-out-wrote-lt44, else-out-wrote-lt44+in_default, else-out-wrote-lt44+in-Some+in_default-played}
use Rattle.replay.proofs.run.run.Goals as goal

pub loop-out-init : goal.loop-out-init
loop-out-init c =
    let none : length c.args.input.now - length c.args.input.now ≡ 0 = omega arith in
    record {
      longs_stay = refl;
      out_stays = refl;
      left = omega arith;
      behind = rw none refl;
      fits = omega arith;
      crosses = rw (← c.as_slice.ensures) c.any_crossed-any_crossed.ensures;
      going = rw none (law.begins _ _ _);
    }

pub loop-out-preserved : goal.loop-out-preserved
loop-out-preserved c =
    let held = c.loop-out.invariant in
    let here = c.in-Some.ensures.whole in
    let f : Stands (drop (length c.args.input.now - length c.loop-out.rest.now) c.args.input.now) c.in-Some.body.now c.in-Some.after.now = rw held.behind at here in
    let room = c.if-out-wrote-lt44.false in
    let w = c.put_line-wrote.ensures.room (omega (arith, room, held.out_stays, held.fits)) in
    record {
      longs_stay = c.played.auto.longs ∙ held.longs_stay;
      out_stays = writes.same_length w ∙ held.out_stays;
      left = omega (arith, here.shorter, held.left);
      behind = law.behind _ _ (omega arith) f;
      fits = omega (arith, writes.next_near w, room, held.out_stays, held.fits);
      crosses = held.crosses ∙ sym c.played.ensures.none_crossed;
      going = law.goes_on _ _ _ _ held.going f c.in-Ok.ensures.good c.in-Ok.ensures.ok (omega (arith, room, held.out_stays, held.fits)) w;
    }

pub returns : goal.returns
returns c =
    let held = c.loop-out.invariant in
    let same = sym held.crosses ∙ rw (← c.as_slice.ensures) c.any_crossed-any_crossed.ensures in
    elim c.if-out-wrote-lt44.branch [
      | then-out-wrote-lt44 w ↦ rw (w.c030-is, w.c040-is, w.longs-is, w.now-is, w.why-is)
          (law.stops_room _ _ _ _ held.going (omega (arith, w.if-out-wrote-lt44.true, held.out_stays)), same)
      | else-out-wrote-lt44+in_default w ↦ rw (w.c030-is, w.c040-is, w.longs-is, w.now-is, w.why-is)
          (law.stops_input _ _ _ _ held.going (rw held.behind at w.in_default.ensures.none), same)
      | else-out-wrote-lt44+in-Some+in_default-played w ↦
          let f : Stands (drop (length c.args.input.now - length c.loop-out.rest.now) c.args.input.now) w.in-Some.body.now w.in-Some.after.now =
          rw held.behind at w.in-Some.ensures.whole
          in
          rw (w.c030-is, w.c040-is, w.longs-is, w.now-is, w.why-is) (
            rw w.in_default-played.ensures.stays (law.stops_malformed _ _ _ _ held.going f w.in_default-played.ensures.bad),
            w.played.ensures.none_crossed ∙ same,
          )
    ]
