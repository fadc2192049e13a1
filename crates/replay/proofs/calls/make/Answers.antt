use Rattle.replay.proofs.Calling as law
use Rattle.replay.proofs.calls.make.Goals as goal

pub returns-in-FlushAll : goal.returns-in-FlushAll
returns-in-FlushAll c = law.by_call _ _ _ _ c.in-FlushAll.is (law.of_flush_all _ _ _ _ c.flush_all_in-answer.ensures c.flush_line.ensures)

pub returns-in-FlushCode : goal.returns-in-FlushCode
returns-in-FlushCode c = law.by_call _ _ _ _ c.in-FlushCode.is (law.of_flush_code _ _ _ _ _ _ (c.flush_code_in-answer.ensures _) c.flush_line-in-FlushCode.ensures)

pub returns-in-FlushPage : goal.returns-in-FlushPage
returns-in-FlushPage c =
    law.by_call _ _ _ _ c.in-FlushPage.is (law.of_flush_page _ _ _ _ _ _ _ (c.flush_page_in-answer.ensures _) c.flush_line-in-FlushPage.ensures)

pub returns-in-FlushFrame : goal.returns-in-FlushFrame
returns-in-FlushFrame c =
    law.by_call _ _ _ _ c.in-FlushFrame.is (law.of_flush_frame _ _ _ _ _ (c.flush_frame_in-answer.ensures _) c.flush_line-in-FlushFrame.ensures)

pub returns-in-Probe : goal.returns-in-Probe
returns-in-Probe c = law.by_call _ _ _ _ c.in-Probe.is (law.of_probe _ _ _ _ _ _ _ _ _ c.probe-answer.ensures c.probe_line.ensures)
