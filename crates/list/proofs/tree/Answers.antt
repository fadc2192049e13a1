use Rattle.list.specs.Writing.{written, begun}
use Rattle.list.proofs.Entering as law
use Rattle.list.proofs.Levels as levels
use Rattle.list.proofs.tree.Goals as goal

pub entry-requires : goal.entry-requires
entry-requires c =
    levels.code_placed c.args.tc c.widths-ws.result c.args.root c.root_table-t.result c.args.code c.code_entry-e.result c.widths-ws.ensures c.requires c.root_table-t.ensures c.code_entry-e.ensures

pub returns-then-bit : goal.returns-then-bit
returns-then-bit c =
    let m = c.args.tables.now in
    law.by_code m c.args.tc c.widths-ws.result c.args.root c.root_table-t.result c.args.code c.args.from c.bit.result (begun c.args.out.now) (written c.entry.new.out c.entry.result) c.widths-ws.ensures c.root_table-t.ensures c.bit.ensures c.code_entry-e.result c.if-bit.true c.code_entry-e.ensures c.entry.ensures

pub table-requires : goal.table-requires
table-requires c = levels.root_placed c.args.tc c.widths-ws.result c.args.root c.root_table-t.result c.widths-ws.ensures c.requires c.root_table-t.ensures

pub returns : goal.returns
returns c =
    let m = c.args.tables.now in
    law.by_table m c.args.tc c.widths-ws.result c.args.root c.root_table-t.result c.args.code c.args.from c.bit.result (begun c.args.out.now) (written c.table.new.out c.table.result) c.widths-ws.ensures c.root_table-t.ensures c.bit.ensures c.if-bit.false c.table.ensures
