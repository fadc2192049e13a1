-- Document 01, 'Translation order', and what the walks' ends give.
use Rattle.std.specs.Prelude.{ℕ, ◌+◌, ◌-◌, ◌/◌, ◌%◌, ◌^◌, List, [], Bool, false, not, ◌&&◌, eqb, if◌then◌else◌, Option, Some, None}
use Rattle.std.specs.Int.Bits.{bit_or}
use Rattle.definition.specs.Words.{bit_of}
use Rattle.definition.specs.Registers.{on, as_supervisor, as_instruction, walk_code, compared_code}
use Rattle.definition.specs.Memory.{Memory}
use Rattle.definition.specs.Transparent.{transparent}
use Rattle.definition.specs.Walk030.{Outcome, walk030, every_level, physical_of, shift_of}
use Rattle.definition.specs.Walk040.{Outcome040, walk040, page_bits, frame_of, physical040}
use Rattle.definition.specs.Cache030.{Cache030, empty030, hit_of, after_hit, inserted}
use Rattle.definition.specs.Cache040.{Cache040, empty040, hit040, inserted040}
use Rattle.definition.specs.Refusal.{Checks, checks, no_family, bad_base, bad_range, bad_cache, bad_override, unless}
use Rattle.definition.specs.Types.{Registers, Access, End, End040, FaultCause, Translation, FaultKind}

-- 'Two caches'
pub record Caches : Type 0 where
  pub c030 : Cache030
  pub c040 : Cache040

-- 'the empty caches that a replay starts from'
abbrev pub empty_caches : Caches
empty_caches = record { c030 = empty030; c040 = empty040 }

-- an answer, the longs asked for, and the next caches. 'The fetch count is the number of longs asked for'
pub record Translated : Type 0 where
  pub answer : Translation
  pub asked : List ℕ
  pub caches : Caches

-- by its parts
abbrev pub translated : Translation → List ℕ → Caches → Translated
translated answer asked caches = record { answer = answer; asked = asked; caches = caches }

-- the address itself, or an answer that asked for nothing and leaves the caches
abbrev pub at_once : Translation → Caches → Translated
at_once answer caches = translated answer [] caches

-- 'Others are AccessLevelViolation. All but bus errors report the logical address.'
abbrev pub violation : FaultCause → ℕ → Translation
violation cause address = Translation.Fault FaultKind.AccessLevelViolation cause address

-- 'Bus error: kind BusError, cause TableWalkBusError.' 'The fault reports that long's address.'
abbrev pub bus_error : ℕ → Translation
bus_error at = Translation.Fault FaultKind.BusError FaultCause.TableWalkBusError at

-- 'Configuration: kind ConfigurationError, cause PageFault.'
abbrev pub configuration : ℕ → Translation
configuration address = Translation.Fault FaultKind.ConfigurationError FaultCause.PageFault address

-- ---- the 68030
-- 'physical less the address's low page-shift bits, wrapping; ..'
abbrev pub base_of : ℕ → ℕ → ℕ → ℕ
base_of physical address shift = (physical + (2 ^ 32 - address % 2 ^ shift)) % 2 ^ 32

-- '.. a hit adds them'
abbrev pub hit_address : ℕ → ℕ → ℕ → ℕ
hit_address base address shift = (base + address % 2 ^ shift) % 2 ^ 32

-- 'the page's base is cached', where there is a page shift
abbrev pub cached : Option ℕ → Cache030 → ℕ → ℕ → ℕ → Bool → Cache030
cached None c code address physical wp = c
cached (Some shift) c code address physical wp =
    inserted c code (address / 2 ^ shift) shift (base_of physical address shift) wp

-- what a search gives: the answer, the longs asked for, and the next 68030 cache
pub record Searched : Type 0 where
  pub answer : Translation
  pub asked : List ℕ
  pub cache : Cache030

-- by its parts
abbrev pub searched : Translation → List ℕ → Cache030 → Searched
searched answer asked cache = record { answer = answer; asked = asked; cache = cache }

-- 'S set and a user access: SupervisorProtect, nothing cached. Otherwise the page's base is cached .., and then a write with WP gives WriteProtect.'
abbrev pub on_page030 : ℕ → Cache030 → ℕ → ℕ → Bool → Bool → Bool → List ℕ → ℕ → Searched
on_page030 tc c code address write wp sup asked physical =
    if sup && not (bit_of code 2)
    then searched (violation FaultCause.SupervisorProtect address) asked c
    else searched (if write && wp then violation FaultCause.WriteProtect address else Translation.Address physical) asked
    (cached (shift_of tc) c code address physical wp)

-- 'Invalid: PageFault, or Indirect for a bad target.' A level stop does not come up: no level is beyond the limit
abbrev pub on_end030 : ℕ → Cache030 → ℕ → ℕ → Bool → Bool → Bool → List ℕ → End → Searched
on_end030 tc c code address write wp sup asked (End.Page field consumed) =
    on_page030 tc c code address write wp sup asked (physical_of field consumed address)
on_end030 tc c code address write wp sup asked (End.Invalid indirect) =
    searched (violation (if indirect then FaultCause.Indirect else FaultCause.PageFault) address) asked c
on_end030 tc c code address write wp sup asked (End.BusError at) = searched (bus_error at) asked c
on_end030 tc c code address write wp sup asked End.LevelStop = searched (configuration address) asked c
on_end030 tc c code address write wp sup asked End.Config = searched (configuration address) asked c

-- what the end of a walk gives, with what it found
abbrev pub concluded030 : ℕ → Cache030 → ℕ → ℕ → Bool → Outcome → Searched
concluded030 tc c code address write o =
    on_end030 tc c code address write o.found.wp o.found.sup o.found.asked o.end

-- a search of the tables in a code's space, which caches what it finds
unfoldable pub search030 : Registers → Memory → Cache030 → ℕ → ℕ → Bool → Searched
search030 g m c code address write =
    concluded030 g.tc c code address write (walk030 m g address code every_level)

-- 'A hit has 0.'
abbrev pub on_hit030 : Registers → Memory → Cache030 → ℕ → ℕ → Bool → ℕ → Option ℕ → Searched
on_hit030 g m c code address write shift (Some base) = searched (Translation.Address (hit_address base address shift)) [] c
on_hit030 g m c code address write shift None = search030 g m c code address write

-- 'cache, walk'
abbrev pub with030 : Registers → Memory → Cache030 → Bool → ℕ → ℕ → Bool → Option ℕ → Searched
with030 g m c recorded code address write None = search030 g m c code address write
with030 g m c recorded code address write (Some shift) =
    on_hit030 g m (after_hit c recorded code (address / 2 ^ shift) shift) code address write shift
    (hit_of c code (address / 2 ^ shift) shift write)

-- the search's cache beside the 68040's, which stays
abbrev pub beside : Caches → Searched → Translated
beside c s = translated s.answer s.asked (record { c030 = s.cache; c040 = c.c040 })

-- an access on the 68030, past the transparent registers
unfoldable pub translate030 : Registers → Access → Memory → Caches → Translated
translate030 g a m c =
    beside c (with030 g m c.c030 a.recorded (walk_code a) a.address a.write (shift_of g.tc))

-- ---- the 68040
-- 'A write with W faults first, then user with S. Only a permitted access is cached.'
abbrev pub on_end040 : Registers → Access → Caches → List ℕ → End040 → Translated
on_end040 g a c asked (End040.Resident field wp sup) =
    if a.write && wp
    then translated (violation FaultCause.WriteProtect a.address) asked c
    else if not (as_supervisor a) && sup
    then translated (violation FaultCause.SupervisorProtect a.address) asked c
    else translated (Translation.Address (physical040 g.tc field a.address)) asked
    (record {
      c030 = c.c030;
      c040 = inserted040 c.c040 (a.address / 2 ^ page_bits g.tc) (as_supervisor a) (frame_of g.tc field) wp sup;
    })
on_end040 g a c asked (End040.Absent missing) = translated (violation missing a.address) asked c
on_end040 g a c asked (End040.Lost at) = translated (bus_error at) asked c

-- what the end of a walk gives
abbrev pub concluded040 : Registers → Access → Caches → Outcome040 → Translated
concluded040 g a c o = on_end040 g a c o.asked o.end

-- a hit joins the stored base and the address's low bits by OR, as the Rust does (docs/DIFFERENCES.md)
abbrev pub joined : ℕ → ℕ → ℕ → ℕ
joined tc base address = bit_or base (address % 2 ^ page_bits tc) % 2 ^ 32

-- 'cache, walk'
abbrev pub on_hit040 : Registers → Access → Memory → Caches → Option ℕ → Translated
on_hit040 g a m c (Some base) = at_once (Translation.Address (joined g.tc base a.address)) c
on_hit040 g a m c None = concluded040 g a c (walk040 m g a.address (as_supervisor a))

-- 'key frame (address shifted right by 12 or 13) and supervisor'
unfoldable pub translate040 : Registers → Access → Memory → Caches → Translated
translate040 g a m c =
    on_hit040 g a m c (hit040 c.c040 (a.address / 2 ^ page_bits g.tc) (as_supervisor a) a.write)

-- ---- the call
-- 'No PMMU or not enabled: the address itself. .. Then transparent registers, cache, walk.' 'A match gives the logical address.'
unfoldable pub in_order : Registers → Access → Memory → Caches → Translated
in_order g a m c =
    if not (on g)
    then at_once (Translation.Address a.address) c
    else if transparent g a.address (compared_code a) (as_instruction a) a.write
    then at_once (Translation.Address a.address) c
    else if eqb g.family 30 then translate030 g a m c else translate040 g a m c

-- 1, 5, 2, 3 and 4 can apply
abbrev pub translate_checks : Registers → Access → Memory → Caches → Checks
translate_checks g a m c =
    checks (no_family g.family) (bad_base m) (bad_range m) (bad_cache c.c030) (bad_override a.code) false false

-- the call
unfoldable pub translate : Registers → Access → Memory → Caches → Translated
translate g a m c =
    unless (translate_checks g a m c) (λ (n : ℕ). at_once (Translation.Refused n) c) (in_order g a m c)

-- 'The cacheless walk of an access is this translation with both caches empty.'
abbrev pub cacheless : Registers → Access → Memory → Translated
cacheless g a m = translate g a m empty_caches
