use Rattle.std.proofs.Common.{arith}
use Rattle.whole.proofs.Showing.{play_empty, play_other, behind_version, no_room_behind, none_shown}
use Rattle.whole.proofs.play.Goals as goal

pub returns-in_default : goal.returns-in_default
returns-in_default c = rw (play_empty _ c.in_default.len_below) c.malformed.ensures

pub returns-then-version-ne1 : goal.returns-then-version-ne1
returns-then-version-ne1 c = rw (play_other _ c.if-version-ne1.true) c.malformed-then-version-ne1.ensures

pub returns-in_err-n : goal.returns-in_err-n
returns-in_err-n c =
    none_shown _ _ _ c.from_residual.ensures.0 (no_room_behind _ c.if-version-ne1.false _ _ c.play_records.ensures _ (grind arith) c.in_err-n.was)

pub returns : goal.returns
returns c =
    behind_version _ c.if-version-ne1.false _ _ c.play_records.ensures _ _ (c.put_version.ensures.room (omega arith)) (omega arith) c.in_ok-n.was
