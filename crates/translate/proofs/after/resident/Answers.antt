use Rattle.translate.proofs.Concluding as law
use Rattle.translate.proofs.after.resident.Goals as goal

pub returns-then-write-wp : goal.returns-then-write-wp
returns-then-write-wp c = law.resident_w _ _ _ _ _ _ _ c.if-write-wp.true c.fault.ensures c.told-c040

pub returns-then-supervisor-sup : goal.returns-then-supervisor-sup
returns-then-supervisor-sup c =
    law.resident_s _ _ _ _ _ _ _ c.if-write-wp.false c.if-supervisor-sup.true c.fault-then-supervisor-sup.ensures c.told-c040

pub returns : goal.returns
returns c =
    law.resident_in _ _ _ _ _ _ _ c.if-write-wp.false c.if-supervisor-sup.false c.page_bits-bits.ensures c.frame_base-base.ensures c.insert_040.ensures c.physical_040.ensures
