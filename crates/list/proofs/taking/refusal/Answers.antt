use Rattle.std.proofs.Common.{sym, ◌∙◌}
use borrow.Author.Tests.{lt-ltb, le-ltb}
use Rattle.list.proofs.Refusing as law
use Rattle.list.proofs.taking.refusal.Goals as goal

pub returns-then-no_family : goal.returns-then-no_family
returns-then-no_family c =
    let m = c.args.tables.now in
    law.one c.args.g m c.args.code (sym c.no_family.ensures ∙ c.if-no_family.true)

pub returns-then-code-gt7 : goal.returns-then-code-gt7
returns-then-code-gt7 c =
    let m = c.args.tables.now in
    law.five c.args.g m c.args.code (sym c.no_family.ensures ∙ c.if-no_family.false) (lt-ltb 7 c.args.code c.if-code-gt7.true)

pub returns-then-is_bad_base : goal.returns-then-is_bad_base
returns-then-is_bad_base c =
    let m = c.args.tables.now in
    law.two c.args.g m c.args.code (sym c.no_family.ensures ∙ c.if-no_family.false) (le-ltb 7 c.args.code c.if-code-gt7.false) (sym c.is_bad_base.ensures ∙ c.if-is_bad_base.true)

pub returns-then-is_crossed : goal.returns-then-is_crossed
returns-then-is_crossed c =
    let m = c.args.tables.now in
    law.three c.args.g m c.args.code (sym c.no_family.ensures ∙ c.if-no_family.false) (le-ltb 7 c.args.code c.if-code-gt7.false) (sym c.is_bad_base.ensures ∙ c.if-is_bad_base.false) (sym c.is_crossed.ensures ∙ c.if-is_crossed.true)

pub returns-then-not_taken : goal.returns-then-not_taken
returns-then-not_taken c =
    let m = c.args.tables.now in
    law.nine c.args.g m c.args.code (sym c.no_family.ensures ∙ c.if-no_family.false) (le-ltb 7 c.args.code c.if-code-gt7.false) (sym c.is_bad_base.ensures ∙ c.if-is_bad_base.false) (sym c.is_crossed.ensures ∙ c.if-is_crossed.false) (sym c.not_taken.ensures ∙ c.if-not_taken.true)

pub returns : goal.returns
returns c =
    let m = c.args.tables.now in
    law.none c.args.g m c.args.code (sym c.no_family.ensures ∙ c.if-no_family.false) (le-ltb 7 c.args.code c.if-code-gt7.false) (sym c.is_bad_base.ensures ∙ c.if-is_bad_base.false) (sym c.is_crossed.ensures ∙ c.if-is_crossed.false) (sym c.not_taken.ensures ∙ c.if-not_taken.false)
