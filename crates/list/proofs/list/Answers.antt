use Rattle.std.proofs.Common.{length}
use Rattle.definition.specs.Memory.{memory}
use Rattle.list.specs.Numbers.{pairs_of}
use Rattle.list.proofs.Refusing as law
use Rattle.list.proofs.list.Goals as goal

pub returns-then-n-ne0 : goal.returns-then-n-ne0
returns-then-n-ne0 c =
    let m = memory c.args.longs.now c.args.base (pairs_of c.args.ranges.now) in
    law.refused c.args.g m c.args.code c.args.from (length c.args.out.now) c.refusal-n.result c.refusal-n.ensures c.args.out.now c.if-n-ne0.true

pub returns : goal.returns
returns c =
    let m = memory c.args.longs.now c.args.base (pairs_of c.args.ranges.now) in
    law.listed c.args.g m c.args.code c.args.from c.refusal-n.result c.root_of-root.result c.args.out.now c.tree-s.new.out c.tree-s.result c.answer.result c.refusal-n.ensures c.if-n-ne0.false c.root_of-root.ensures c.tree-s.ensures c.answer.ensures
