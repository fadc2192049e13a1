use Rattle.search.proofs.Searching as law
use Rattle.search.proofs.end_030.Goals as goal

pub returns-in-Page : goal.returns-in-Page
returns-in-Page c = law.end_page _ _ _ _ _ _ c.in-Page.is c.physical-to.ensures c.page_found.ensures

pub returns-in-Invalid : goal.returns-in-Invalid
returns-in-Invalid c = law.end_invalid _ _ _ _ _ c.in-Invalid.is c.missing_cause.ensures c.fault.ensures c.told-c030

pub returns-in-BusError : goal.returns-in-BusError
returns-in-BusError c = law.end_bus _ _ _ _ _ c.in-BusError.is c.bus_fault.ensures c.told-c030

pub returns-in-LevelStop : goal.returns-in-LevelStop
returns-in-LevelStop c = law.end_stop _ _ _ _ _ c.in-LevelStop.is c.configuration_fault.ensures c.told-c030

pub returns-in-Config : goal.returns-in-Config
returns-in-Config c = law.end_config _ _ _ _ _ c.in-Config.is c.configuration_fault-in-Config.ensures c.told-c030
