use Rattle.translate.proofs.Concluding as law
use Rattle.translate.proofs.after.end_040.Goals as goal

pub returns-in-Resident : goal.returns-in-Resident
returns-in-Resident c = law.end_resident _ _ _ _ _ c.in-Resident.is c.resident.ensures

pub returns-in-Absent : goal.returns-in-Absent
returns-in-Absent c = law.end_absent _ _ _ _ c.in-Absent.is c.fault.ensures c.told-c040

pub returns-in-Lost : goal.returns-in-Lost
returns-in-Lost c = law.end_lost _ _ _ _ c.in-Lost.is c.bus_fault.ensures c.told-c040
