use Rattle.std.proofs.Common.{sym, eq-eqb, ne_eqb, arith, rules}
use Rattle.cache.specs.Atc030.{tags_of}
use Rattle.cache.proofs.Parts.{tag_get, tags_22}
use Rattle.cache.proofs.Lists.{down_none, down_here, down_past}
use Rattle.cache.proofs.atc030.first_with.Goals as goal

pub loop-i-init : goal.loop-i-init
loop-i-init c = (omega arith, down_none _ (tags_of c.args.c030.now) 22 (tags_22 _ c.told-c030))

pub loop-i-preserved-then-c030-i : goal.loop-i-preserved-then-c030-i
loop-i-preserved-then-c030-i c =
    (omega arith, down_here _ (tags_of c.args.c030.now) c.loop-i.i c.loop-i-test.true (omega (arith, tags_22 c.args.c030.now c.told-c030)) _ (tag_get _ _ (search rules)) (eq-eqb _ _ (sym c.if-c030-i.true)))

pub loop-i-preserved : goal.loop-i-preserved
loop-i-preserved c =
    (omega arith, down_past _ (tags_of c.args.c030.now) c.loop-i.i c.loop-i-test.true (omega (arith, tags_22 c.args.c030.now c.told-c030)) _ _ (tag_get _ _ (search rules)) (ne_eqb _ _ (λ e. c.if-c030-i.false (sym e))) c.loop-i.invariant.1)
