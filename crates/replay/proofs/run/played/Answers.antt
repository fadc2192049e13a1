use Rattle.std.proofs.Common.{◌∙◌, ap, Ok}
use Rattle.definition.specs.Calls.{access}
use Rattle.trace.specs.Records.{call_in}
use Rattle.trace.proofs.Seeing as seeing
use Rattle.replay.proofs.Stepping as step
use Rattle.replay.proofs.Calling as calling
use Rattle.replay.proofs.Running as law
use Rattle.replay.proofs.run.played.Goals as goal

pub returns-in-Some-clause-ok : goal.returns-in-Some-clause-ok
returns-in-Some-clause-ok c =
    let a = c.args in
    rw (← seeing.is_access _ c.look.ensures c.in-Some.is)
    (step.called a.kept.now (access c.in-Some.a) a.longs.now a.c030.now a.c040.now (calling.true_call _ _ _ c.requires _ c.access_line.ensures))

pub returns-in-Call-clause-ok : goal.returns-in-Call-clause-ok
returns-in-Call-clause-ok c =
    let a = c.args in
    rw (← law.said_call (c.decode.ensures ∙ seeing.is_other _ c.look.ensures c.in_default.is) (c.in_ok-setting.was ∙ ap Ok c.in-Call.is))
    (step.called a.kept.now (call_in c.in-Call.call) a.longs.now a.c030.now a.c040.now (calling.true_call _ _ _ c.requires _ c.make.ensures))
