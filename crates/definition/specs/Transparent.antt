-- Document 01, 'Transparent registers', with document 02's request 02: TT0 and TT1 of the 68030, ITT0, ITT1, DTT0 and DTT1 of the 68040.
use Rattle.std.specs.Prelude.{ℕ, ◌-◌, ◌/◌, ◌%◌, ◌^◌, Bool, true, false, not, ◌&&◌, ◌||◌, eqb, if◌then◌else◌}
use Rattle.definition.specs.Words.{bit_of, agrees}
use Rattle.definition.specs.Types.{Registers}

-- 'Bit 15 enables. Address bits 31:24 are compared with register bits 31:24, ignoring those set in 23:16.'
abbrev pub covers : ℕ → ℕ → Bool
covers tt address = bit_of tt 15 && agrees (address / 2 ^ 24) (tt / 2 ^ 24) (255 - tt / 2 ^ 16 % 256)

-- Request 02, from the MC68030 User's Manual, 9.7.3: 'R/W in 9 and RWM in 8. .. R/W applies when RWM is clear: R/W set matches reads only, clear matches writes only.'
abbrev pub directed : ℕ → Bool → Bool
directed tt write = if bit_of tt 8 then true else if bit_of tt 9 then not write else write

-- 'the function-code base in bits 6:4 and the mask in bits 2:0', whose set bits are ignored. Bits 14:10, 7 and 3 mean nothing
abbrev pub matches030 : ℕ → ℕ → ℕ → Bool → Bool
matches030 tt address code write = covers tt address && (directed tt write && agrees code (tt / 2 ^ 4 % 8) (7 - tt % 8))

-- 'S-field 0 matches user only, 1 supervisor only, 2 and 3 both'
abbrev pub privilege : ℕ → Bool → Bool
privilege field supervisor = if eqb field 0 then not supervisor else if eqb field 1 then supervisor else true

-- 'Family 40, by bits 14:13'
abbrev pub matches040 : ℕ → ℕ → Bool → Bool
matches040 tt address supervisor = covers tt address && privilege (tt / 2 ^ 13 % 4) supervisor

-- 'Family 30, TT0 or TT1'
abbrev pub transparent030 : Registers → ℕ → ℕ → Bool → Bool
transparent030 g address code write = matches030 g.tt0 address code write || matches030 g.tt1 address code write

-- 'ITTs for instructions, DTTs for data'
abbrev pub transparent040 : Registers → ℕ → Bool → Bool → Bool
transparent040 g address supervisor instruction =
    if instruction
    then matches040 g.itt0 address supervisor || matches040 g.itt1 address supervisor
    else matches040 g.dtt0 address supervisor || matches040 g.dtt1 address supervisor

-- 'Family 60 matches nothing.' 'The code compared (its bit 2 on family 40)'
unfoldable pub transparent : Registers → ℕ → ℕ → Bool → Bool → Bool
transparent g address code instruction write =
    if eqb g.family 30
    then transparent030 g address code write
    else if eqb g.family 40 then transparent040 g address (bit_of code 2) instruction else false
