use Rattle.list.proofs.Looking as law
use Rattle.list.proofs.seeing.look.Goals as goal

pub returns-in-Err : goal.returns-in-Err
returns-in-Err c = law.lost c.args.tables.now c.args.last c.args.e c.read_desc.ensures c.in-Err.is c.lost_at.ensures

pub returns-in-Invalid : goal.returns-in-Invalid
returns-in-Invalid c = law.nothing c.args.tables.now c.args.last c.args.e c.read_desc.ensures c.in-Ok.is c.in-Invalid.is

pub returns-in-Page : goal.returns-in-Page
returns-in-Page c = law.page c.args.tables.now c.args.last c.args.e c.read_desc.ensures c.in-Ok.is c.in-Page.is c.page_at.ensures

pub returns-then-last : goal.returns-then-last
returns-then-last c =
    law.target c.args.tables.now c.args.last c.args.e c.read_desc.ensures c.in-Ok.is c.in-Table.is c.if-last.true c.target_of-to.ensures c.read_desc-then-last.ensures c.at_target.ensures

pub returns-else-last : goal.returns-else-last
returns-else-last c =
    law.table c.args.tables.now c.args.last c.args.e c.read_desc.ensures c.in-Ok.is c.in-Table.is c.if-last.false c.table_at.ensures
