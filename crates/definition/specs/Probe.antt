-- Document 01, 'The caches': the probe.
use Rattle.std.specs.Prelude.{ℕ, ◌/◌, ◌^◌, Bool, false, not, eqb, if◌then◌else◌, Option, Some, None}
use Rattle.definition.specs.Registers.{on, code_of}
use Rattle.definition.specs.Transparent.{transparent}
use Rattle.definition.specs.Walk030.{shift_of}
use Rattle.definition.specs.Walk040.{page_bits}
use Rattle.definition.specs.Cache030.{Cache030, hit_of}
use Rattle.definition.specs.Cache040.{Cache040, hit040}
use Rattle.definition.specs.Refusal.{Checks, checks, no_family, bad_cache, unless}
use Rattle.definition.specs.Translate.{Caches, hit_address, joined}
use Rattle.definition.specs.Types.{Registers, Probe}

-- a hit's address, 'else nothing'
abbrev pub probed : (ℕ → ℕ) → Option ℕ → Probe
probed address (Some base) = Probe.Address (address base)
probed address None = Probe.Nothing

-- 'an unrecorded hit, else nothing'
abbrev pub probe030 : Cache030 → ℕ → Bool → ℕ → Option ℕ → Probe
probe030 c code write address None = Probe.Nothing
probe030 c code write address (Some shift) =
    probed (λ (base : ℕ). hit_address base address shift) (hit_of c code (address / 2 ^ shift) shift write)

-- of the 68040, by 'the CPU's own state'
abbrev pub probe040 : Registers → Cache040 → Bool → Bool → ℕ → Probe
probe040 g c own write address =
    probed (λ (base : ℕ). joined g.tc base address) (hit040 c (address / 2 ^ page_bits g.tc) own write)

-- 'The probe answers from a transparent match or an unrecorded hit, else nothing; off, nothing. It uses the CPU's own state as supervisor and no override.'
unfoldable pub probe_in_order : Registers → Bool → Bool → Bool → ℕ → Caches → Probe
probe_in_order g own instruction write address c =
    if not (on g)
    then Probe.Nothing
    else if transparent g address (code_of own instruction) instruction write
    then Probe.Address address
    else if eqb g.family 30
    then probe030 c.c030 (code_of own instruction) write address (shift_of g.tc)
    else probe040 g c.c040 own write address

-- 1 and 4 can apply
abbrev pub probe_checks : Registers → Caches → Checks
probe_checks g c =
    checks (no_family g.family) false false (bad_cache c.c030) false false false

-- the call
unfoldable pub probe : Registers → Bool → Bool → Bool → ℕ → Caches → Probe
probe g own instruction write address c =
    unless (probe_checks g c) (λ (n : ℕ). Probe.Refused n) (probe_in_order g own instruction write address c)
