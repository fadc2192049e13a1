-- What the code's record means: the definition's record, case by case.
use Rattle.std.specs.Prelude.{Option, Some, None, Result, Ok, Err}
use Rattle.definition.specs.Calls as calls
use Rattle.definition.specs.Trace as trace
use Rattle.definition.specs.declared.Access.{Access}
use Rattle.trace.specs.declared.Malformed.{Malformed}
use Rattle.trace.specs.declared.Call.{Call}
use Rattle.trace.specs.declared.Call.TheVariants as call
use Rattle.trace.specs.declared.Setting.{Setting}
use Rattle.trace.specs.declared.Setting.TheVariants as setting
use Rattle.trace.specs.declared.Record.{Record}
use Rattle.trace.specs.declared.Record.TheVariants as record'

-- the access that a record is, if it is one
abbrev pub seen_call : calls.Call → Option Access
seen_call (calls.access a) = Some a
seen_call (calls.loading code write address) = None
seen_call (calls.testing code write level address) = None
seen_call (calls.probing own instruction write address) = None
seen_call calls.flushing_all = None
seen_call (calls.flushing_code code mask) = None
seen_call (calls.flushing_page code mask address) = None
seen_call (calls.flushing_frame frame) = None

abbrev pub seen_of : trace.Record → Option Access
seen_of (trace.Calls c) = seen_call c
seen_of (trace.Loads g) = None
seen_of (trace.Stores address value) = None
seen_of (trace.Adds range) = None
seen_of trace.Malformed = None

-- a record that is no access; an access is malformed
abbrev pub other_by : Option Access → trace.Record → trace.Record
other_by (Some a) x = trace.Malformed
other_by None x = x

abbrev pub other_of : trace.Record → trace.Record
other_of x = other_by (seen_of x) x

-- what a call is that is no access
abbrev pub call_in : Call → calls.Call
call_in (call.Load code write address) = calls.loading code write address
call_in (call.Test code write level address) = calls.testing code write level address
call_in call.FlushAll = calls.flushing_all
call_in (call.FlushCode code mask) = calls.flushing_code code mask
call_in (call.FlushPage code mask address) = calls.flushing_page code mask address
call_in (call.FlushFrame frame) = calls.flushing_frame frame
call_in (call.Probe own instruction write address) = calls.probing own instruction write address

-- what is set
abbrev pub setting_in : Setting → trace.Record
setting_in (setting.Registers g) = trace.Loads g
setting_in (setting.Long address value) = trace.Stores address value
setting_in (setting.Range range) = trace.Adds range

abbrev pub record_in : Result Record Malformed → trace.Record
record_in (Ok (record'.Call c)) = trace.Calls (call_in c)
record_in (Ok (record'.Set s)) = setting_in s
record_in (Err _) = trace.Malformed
