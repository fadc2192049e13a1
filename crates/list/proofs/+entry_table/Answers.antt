use Rattle.std.proofs.Common.{◌≡◌, ℕ, ◌+◌, ◌<◌, List, length, drop, refl, arith, rules, sym, ◌∙◌}
use Rattle.definition.specs.Memory.{Memory}
use Rattle.definition.specs.Walk030.{used}
use Rattle.definition.specs.List.{entry_at, table_ranges, entry_ranges, ranges_from}
use Rattle.definition.specs.declared.Mapped.{Mapped}
use Rattle.definition.specs.declared.Node.{Node}
use Rattle.list.specs.Writing.{Written, written, puts}
use Rattle.list.proofs.Entering as law
use Rattle.list.proofs.Levels as levels
use Rattle.list.proofs.Output as output
use Rattle.list.proofs.+entry_table.Goals as goal

-- ---- an entry
pub entry-returns-then-is_before : goal.entry-returns-then-is_before
entry-returns-then-is_before t c =
    let m = c.args.tables.now in
    law.skips m c.args.ws c.args.level c.args.from c.args.e c.requires (written c.args.out.now c.args.s) c.is_before.result c.is_before.ensures c.if-is_before.true

pub entry-table-requires : goal.entry-table-requires
entry-table-requires t c =
    let m = c.args.tables.now in
    (omega arith, law.opened m c.args.ws c.args.level c.args.from c.args.e c.requires (written c.args.out.now c.args.s) c.is_before.result c.is_before.ensures c.is_last-last.result c.is_last-last.ensures c.look.result c.look.ensures c.in-Opens.t c.in-Opens.is)

pub entry-returns-in-Nothing : goal.entry-returns-in-Nothing
entry-returns-in-Nothing t c =
    let m = c.args.tables.now in
    law.none m c.args.ws c.args.level c.args.from c.args.e c.requires (written c.args.out.now c.args.s) c.is_before.result c.is_before.ensures c.is_last-last.result c.is_last-last.ensures c.look.result c.look.ensures c.in-Nothing.is

pub entry-returns-in-One : goal.entry-returns-in-One
entry-returns-in-One t c =
    let m = c.args.tables.now in
    law.one m c.args.ws c.args.level c.args.from c.args.e c.requires (written c.args.out.now c.args.s) c.is_before.result c.is_before.ensures c.is_last-last.result c.is_last-last.ensures c.look.result c.look.ensures c.in-One.x (written c.put.new.out c.put.result) c.if-is_before.false c.in-One.is c.put.ensures

-- ---- a table: what each entry writes, and what all of them do
abbrev each : Memory → List ℕ → ℕ → ℕ → Node → ℕ → ℕ → List Mapped
each m ws level from t w j = ranges_from from (entry_ranges m (used (drop (level + 1) ws)) (entry_at t w j))

abbrev whole : Memory → List ℕ → ℕ → ℕ → Node → Written → Written
whole m ws level from t l = puts (ranges_from from (table_ranges m (used (drop level ws)) t)) l

pub table-returns-then-w-eq0 : goal.table-returns-then-w-eq0
table-returns-then-w-eq0 t c =
    let m = c.args.tables.now in
    law.none_left_lem m c.args.ws c.args.level c.args.from c.args.t c.width_at-w.result c.width_at-w.ensures (written c.args.out.now c.args.s) c.if-w-eq0.true

pub table-loop-i-init : goal.table-loop-i-init
table-loop-i-init t c =
    let m = c.args.tables.now in
    (refl, law.starts m c.args.ws c.args.level c.args.from c.args.t c.width_at-w.result c.width_at-w.ensures c.entries-n.result (written c.args.out.now c.args.s) c.if-w-eq0.false c.entries-n.ensures)

pub table-returns-then-is_some : goal.table-returns-then-is_some
table-returns-then-is_some t c =
    let m = c.args.tables.now in
    output.stops (each m c.args.ws c.args.level c.args.from c.args.t c.width_at-w.result) c.entries-n.result (whole m c.args.ws c.args.level c.args.from c.args.t (written c.args.out.now c.args.s)) c.loop-i.i (written c.loop-i.out c.loop-i.so) c.loop-i.invariant.1 (sym c.is_some.ensures ∙ c.if-is_some.true)

pub table-entry_at-e-requires : goal.table-entry_at-e-requires
table-entry_at-e-requires t c =
    let b = levels.below c.args.ws c.args.level c.args.t c.width_at-w.result c.entries-n.result c.loop-i.i c.requires c.width_at-w.ensures c.if-w-eq0.false c.entries-n.ensures c.loop-i-test.true in
    (b.some, b.fits, b.low)

pub table-entry-so-requires : goal.table-entry-so-requires
table-entry-so-requires t c =
    let four : length c.args.ws ≡ 4 = search rules in
    let one : c.args.level < 4 = levels.four c.args.ws c.args.level c.width_at-w.result four c.width_at-w.ensures c.if-w-eq0.false in
    let b = levels.below c.args.ws c.args.level c.args.t c.width_at-w.result c.entries-n.result c.loop-i.i c.requires c.width_at-w.ensures c.if-w-eq0.false c.entries-n.ensures c.loop-i-test.true in
    (omega arith, rw c.entry_at-e.ensures b.placed)

pub table-loop-i-preserved : goal.table-loop-i-preserved
table-loop-i-preserved t c =
    let m = c.args.tables.now in (
      c.entry-so.auto.out ∙ c.loop-i.invariant.0,
      output.goes (each m c.args.ws c.args.level c.args.from c.args.t c.width_at-w.result) c.entries-n.result (whole m c.args.ws c.args.level c.args.from c.args.t (written c.args.out.now c.args.s)) c.loop-i.i (written c.loop-i.out c.loop-i.so) (written c.entry-so.new.out c.entry-so.result) c.loop-i.invariant.1 c.loop-i-test.true (rw c.entry_at-e.ensures at c.entry-so.ensures),
    )

pub table-returns : goal.table-returns
table-returns t c =
    let m = c.args.tables.now in
    output.ends (each m c.args.ws c.args.level c.args.from c.args.t c.width_at-w.result) c.entries-n.result (whole m c.args.ws c.args.level c.args.from c.args.t (written c.args.out.now c.args.s)) c.loop-i.i (written c.loop-i.out c.loop-i.so) c.loop-i.invariant.1 c.loop-i-test.false
