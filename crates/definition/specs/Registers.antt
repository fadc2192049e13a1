-- Document 01, 'What a call is given': what follows from the registers and the access alone.
use Rattle.std.specs.Prelude.{ℕ, ◌%◌, Bool, true, false, ◌&&◌, eqb, if◌then◌else◌, Option, Some, None}
use Rattle.definition.specs.Words.{bit_of}
use Rattle.definition.specs.Types.{Registers, Root, Access}

-- 'Registers', in the order of document 01: the family, the two flags, and 11 longs
abbrev pub all_registers : ℕ → Bool → Bool → ℕ → ℕ → ℕ → ℕ → ℕ → ℕ → ℕ → ℕ → ℕ → ℕ → ℕ → Registers
all_registers family present enabled tc climit caddress slimit saddress tt0 tt1 itt0 itt1 dtt0 dtt1 =
    record {
      family = family;
      present = present;
      enabled = enabled;
      tc = tc;
      crp = record { limit = climit; address = caddress };
      srp = record { limit = slimit; address = saddress };
      tt0 = tt0;
      tt1 = tt1;
      itt0 = itt0;
      itt1 = itt1;
      dtt0 = dtt0;
      dtt1 = dtt1;
    }

-- 'No PMMU or not enabled: the address itself.'
abbrev pub on : Registers → Bool
on g = g.present && g.enabled

-- 'user data 1, program 2, supervisor data 5, program 6', of supervisor and instruction
abbrev pub code_of : Bool → Bool → ℕ
code_of false false = 1
code_of false true = 2
code_of true false = 5
code_of true true = 6

-- 'An override replaces supervisor by bit 2 ..'
abbrev pub supervisor_by : Option ℕ → Bool → Bool
supervisor_by None supervisor = supervisor
supervisor_by (Some code) supervisor = bit_of code 2

-- '.. and instruction by "low two bits are 2".'
abbrev pub instruction_by : Option ℕ → Bool → Bool
instruction_by None instruction = instruction
instruction_by (Some code) instruction = eqb (code % 4) 2

-- an access's privilege, its override taken in
abbrev pub as_supervisor : Access → Bool
as_supervisor a = supervisor_by a.code a.supervisor

-- and whether it is an instruction's
abbrev pub as_instruction : Access → Bool
as_instruction a = instruction_by a.code a.instruction

-- 'The 68030 walk uses code 1, 2, 5 or 6 again: overrides 0 and 3 as 1, 4 and 7 as 5.'
abbrev pub walk_code : Access → ℕ
walk_code a = code_of (as_supervisor a) (as_instruction a)

-- 'The code compared .. is the override, else from the CPU's own state and instruction'
abbrev pub compared_by : Option ℕ → Bool → Bool → ℕ
compared_by None own instruction = code_of own instruction
compared_by (Some code) own instruction = code

-- of an access
abbrev pub compared_code : Access → ℕ
compared_code a = compared_by a.code a.own a.instruction

-- 'SRP is used if TC bit 25 is set and code bit 2 is set; else CRP.'
abbrev pub root_of : Registers → ℕ → Root
root_of g code = if bit_of g.tc 25 && bit_of code 2 then g.srp else g.crp
