use Rattle.std.proofs.Common.{arith}
use Rattle.trace.proofs.Shapes.{no_kind}
use Rattle.trace.proofs.Seeing.{said_by, not_said, nothing_said}
use Rattle.trace.proofs.decode.Goals as goal

pub returns-in_default : goal.returns-in_default
returns-in_default c = nothing_said (no_kind _ c.in_default.len_below)

pub returns-in-1 : goal.returns-in-1
returns-in-1 c = said_by _ c.in-len1-up.len_at_least c.in-1.is _ c.registers_of.ensures

pub returns-in-3 : goal.returns-in-3
returns-in-3 c = said_by _ c.in-len1-up.len_at_least c.in-3.is _ c.load_of.ensures

pub returns-in-4 : goal.returns-in-4
returns-in-4 c = said_by _ c.in-len1-up.len_at_least c.in-4.is _ c.test_of.ensures

pub returns-in-5 : goal.returns-in-5
returns-in-5 c = said_by _ c.in-len1-up.len_at_least c.in-5.is _ c.flush_all_of.ensures

pub returns-in-6 : goal.returns-in-6
returns-in-6 c = said_by _ c.in-len1-up.len_at_least c.in-6.is _ c.flush_code_of.ensures

pub returns-in-7 : goal.returns-in-7
returns-in-7 c = said_by _ c.in-len1-up.len_at_least c.in-7.is _ c.flush_page_of.ensures

pub returns-in-8 : goal.returns-in-8
returns-in-8 c = said_by _ c.in-len1-up.len_at_least c.in-8.is _ c.flush_frame_of.ensures

pub returns-in-9 : goal.returns-in-9
returns-in-9 c = said_by _ c.in-len1-up.len_at_least c.in-9.is _ c.store_of.ensures

pub returns-in-10 : goal.returns-in-10
returns-in-10 c = said_by _ c.in-len1-up.len_at_least c.in-10.is _ c.range_of.ensures

pub returns-in-11 : goal.returns-in-11
returns-in-11 c = said_by _ c.in-len1-up.len_at_least c.in-11.is _ c.probe_of.ensures

pub returns-in-0 : goal.returns-in-0
returns-in-0 c =
    not_said _ c.in-len1-up.len_at_least (λ e. omega (arith, e)) (λ e. omega (arith, e)) (λ e. omega (arith, e)) (λ e. omega (arith, e)) (λ e. omega (arith, e))
    (λ e. omega (arith, e)) (λ e. omega (arith, e)) (λ e. omega (arith, e)) (λ e. omega (arith, e)) (λ e. omega (arith, e))

pub returns-in-0-2 : goal.returns-in-0-2
returns-in-0-2 c =
    not_said _ c.in-len1-up.len_at_least (λ e. omega (arith, e)) (λ e. omega (arith, e)) (λ e. omega (arith, e)) (λ e. omega (arith, e)) (λ e. omega (arith, e))
    (λ e. omega (arith, e)) (λ e. omega (arith, e)) (λ e. omega (arith, e)) (λ e. omega (arith, e)) (λ e. omega (arith, e))
