use Rattle.std.proofs.Common.{◌≡◌}
use Rattle.definition.specs.declared.End.TheVariants.{Page, Invalid, LevelStop, BusError}
use Rattle.walk030.specs.Machine.{answered}
use Rattle.walk030.proofs.Driving as drive
use Rattle.walk030.proofs.walk_030.Goals as goal
use Rattle.walk030.proofs.walk_030.Goals.{then-is_at_limit, else-is_at_limit+in-Err, else-is_at_limit+in-Ok+in-Page, else-is_at_limit+in-Ok+in-Invalid, else-is_at_limit+in-Ok+in-Table+then-s}

pub loop-ws-init : goal.loop-ws-init
loop-ws-init c =
    let a = c.args in
    drive.begin a.tables.now a.tc a.root a.address a.code a.limit c.widths-ws.ensures c.level_count-n.ensures c.begin.ensures c.in-Some.is

pub aim-s-requires : goal.aim-s-requires
aim-s-requires c =
    let a = c.args in
    drive.aim_asks a.tables.now a.tc a.root a.address a.code a.limit c.widths-ws.ensures c.level_count-n.ensures c.loop-ws.invariant

pub seen-s-requires : goal.seen-s-requires
seen-s-requires c =
    let a = c.args in
    drive.seen_asks a.tables.now a.tc a.root a.address a.code a.limit c.widths-ws.ensures c.level_count-n.ensures c.loop-ws.invariant
    c.is_at_limit.ensures c.if-is_at_limit.false c.aim-s.ensures c.read_desc-read.ensures

pub loop-ws-smaller : goal.loop-ws-smaller
loop-ws-smaller c =
    let a = c.args in
    drive.less a.tables.now a.tc a.root a.address a.code a.limit c.widths-ws.ensures c.level_count-n.ensures c.loop-ws.invariant
    c.is_at_limit.ensures c.if-is_at_limit.false c.aim-s.ensures c.read_desc-read.ensures c.seen-s.ensures c.in-Ok.is c.in-Table.is c.if-s.false c.onward-s.ensures

pub loop-ws-preserved : goal.loop-ws-preserved
loop-ws-preserved c =
    let a = c.args in
    drive.next a.tables.now a.tc a.root a.address a.code a.limit c.widths-ws.ensures c.level_count-n.ensures c.loop-ws.invariant
    c.is_at_limit.ensures c.if-is_at_limit.false c.aim-s.ensures c.read_desc-read.ensures c.seen-s.ensures c.in-Ok.is c.in-Table.is c.if-s.false c.onward-s.ensures

pub returns : goal.returns
returns c =
    let a = c.args in
    elim c.if-is_at_limit.branch [
      | then-is_at_limit w ↦
          let e : c.answer.result ≡ answered c.loop-ws.s LevelStop = cc in
          drive.ends_stop a.tables.now a.tc a.root a.address a.code a.limit c.widths-ws.ensures c.level_count-n.ensures c.loop-ws.invariant c.is_at_limit.ensures w.if-is_at_limit.true e
      | else-is_at_limit+in-Err w ↦
          let e : c.answer.result ≡ answered w.seen-s.result (BusError w.in-Err.lost.at) = cc in
          drive.ends_lost a.tables.now a.tc a.root a.address a.code a.limit c.widths-ws.ensures c.level_count-n.ensures c.loop-ws.invariant c.is_at_limit.ensures w.if-is_at_limit.false
          w.aim-s.ensures w.read_desc-read.ensures w.seen-s.ensures w.in-Err.is e
      | else-is_at_limit+in-Ok+in-Page w ↦
          let e : c.answer.result ≡ answered w.seen-s.result (Page w.in-Ok.d.field w.seen-s.result.consumed) = cc in
          drive.ends_page a.tables.now a.tc a.root a.address a.code a.limit c.widths-ws.ensures c.level_count-n.ensures c.loop-ws.invariant c.is_at_limit.ensures w.if-is_at_limit.false
          w.aim-s.ensures w.read_desc-read.ensures w.seen-s.ensures w.in-Ok.is w.in-Page.is e
      | else-is_at_limit+in-Ok+in-Invalid w ↦
          let e : c.answer.result ≡ answered w.seen-s.result (Invalid w.seen-s.result.target) = cc in
          drive.ends_invalid a.tables.now a.tc a.root a.address a.code a.limit c.widths-ws.ensures c.level_count-n.ensures c.loop-ws.invariant c.is_at_limit.ensures w.if-is_at_limit.false
          w.aim-s.ensures w.read_desc-read.ensures w.seen-s.ensures w.in-Ok.is w.in-Invalid.is e
      | else-is_at_limit+in-Ok+in-Table+then-s w ↦
          let e : c.answer.result ≡ answered w.seen-s.result (Invalid w.seen-s.result.target) = cc in
          drive.ends_target a.tables.now a.tc a.root a.address a.code a.limit c.widths-ws.ensures c.level_count-n.ensures c.loop-ws.invariant c.is_at_limit.ensures w.if-is_at_limit.false
          w.aim-s.ensures w.read_desc-read.ensures w.seen-s.ensures w.in-Ok.is w.in-Table.is w.if-s.true e
    ]
