-- Document 01, 'The 68030 walk': PTEST.
use Rattle.std.specs.Prelude.{ℕ, ◌+◌, ◌%◌, List, [], Bool, false, not, ◌&&◌, ◌||◌, eqb, if◌then◌else◌}
use Rattle.definition.specs.Words.{bit_of}
use Rattle.definition.specs.Memory.{Memory}
use Rattle.definition.specs.Transparent.{transparent030}
use Rattle.definition.specs.Walk030.{Outcome, walk030}
use Rattle.definition.specs.Refusal.{Checks, checks, no_family, bad_base, bad_range, above_seven, not030, unless}
use Rattle.definition.specs.Types.{Registers, End, Test}

-- an answer and the longs asked for. 'touches no cache'
pub record Tested : Type 0 where
  pub answer : Test
  pub asked : List ℕ

-- by its parts
abbrev pub tested : Test → List ℕ → Tested
tested answer asked = record { answer = answer; asked = asked }

-- a bit of MMUSR
abbrev pub flag : Bool → ℕ → ℕ
flag b n = if b then n else 0

-- 'B 8000 for bus error or configuration, .. I 0400'
abbrev pub end_flags : End → ℕ
end_flags (End.Page field consumed) = 0
end_flags (End.Invalid indirect) = 0x0400
end_flags End.LevelStop = 0
end_flags (End.BusError at) = 0x8000
end_flags End.Config = 0x8000

-- 'S 2000 (user code), W 0800, .. N levels', which the manual has in bits 2:0: the mod 8 is the Rust's `& 7`; there are at most 5 levels
abbrev pub mmusr_of : ℕ → Bool → Bool → ℕ → End → ℕ
mmusr_of code wp sup levels e = end_flags e + flag (sup && not (bit_of code 2)) 0x2000 + flag wp 0x0800 + levels % 8

-- 'and the address of the last descriptor asked for, the unmasked root address for configuration'
abbrev pub status_of : ℕ → Outcome → Tested
status_of code o =
    tested (Test.Status (mmusr_of code o.found.wp o.found.sup o.found.levels o.end) o.found.last) o.found.asked

-- 'Level 0: 0040 if a TT matches, else 0, address 0. Otherwise at most that many levels'. 'PTEST works whether enabled or not'
unfoldable pub test_in_order : Registers → ℕ → Bool → ℕ → ℕ → Memory → Tested
test_in_order g code write level address m =
    if eqb level 0
    then tested (Test.Status (flag (transparent030 g address code write) 0x0040) 0) []
    else status_of code (walk030 m g address code level)

-- 1, 6, 5, 2 and 3 can apply
abbrev pub test_checks : Registers → ℕ → ℕ → Memory → Checks
test_checks g code level m =
    checks (no_family g.family) (bad_base m) (bad_range m) false (above_seven code || above_seven level) (not030 g.family) false

-- `write` is PTEST's R/W form, which TT0 and TT1 alone ask for
unfoldable pub test : Registers → ℕ → Bool → ℕ → ℕ → Memory → Tested
test g code write level address m =
    unless (test_checks g code level m) (λ (n : ℕ). tested (Test.Refused n) []) (test_in_order g code write level address m)
