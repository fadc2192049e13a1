-- The audit of a snapshot, added by the port: the first cached entry that is not what the walk of its key finds now, and what the two say.
-- It reads the family, TC, CRP and SRP alone: neither the transparent registers nor whether the PMMU is on change what it says.
use Rattle.std.specs.Prelude.{ℕ, ◌+◌, ◌*◌, ◌%◌, ◌^◌, Bool, true, false, not, ◌&&◌, ◌||◌, List, eqb, ltb, length, get_or, drop, if◌then◌else◌, Option, Some, None}
use Rattle.definition.specs.Words.{bit_of, first_of}
use Rattle.definition.specs.Registers.{all_registers, code_of}
use Rattle.definition.specs.Memory.{Memory}
use Rattle.definition.specs.Walk030.{Outcome, walk030, every_level, physical_of, shift_of}
use Rattle.definition.specs.Walk040.{Outcome040, walk040, page_bits, frame_of}
use Rattle.definition.specs.Cache030.{Entry, Cache030, no_entry, permitted}
use Rattle.definition.specs.Cache040.{Slot, Cache040, no_slot, slot_hit}
use Rattle.definition.specs.Refusal.{Checks, checks, no_family, bad_base, bad_range, bad_cache, unless}
use Rattle.definition.specs.Translate.{Caches, cacheless}
use Rattle.definition.specs.Types.{Registers, Access, End, End040, Audit, Finding}

-- the address of a page's first byte
abbrev pub first_of_page : ℕ → ℕ → ℕ
first_of_page page shift = page * 2 ^ shift

-- the index of the first that passes, of those at `from` or above
abbrev pub first_from : {A : Type 0} → (A → Bool) → ℕ → List A → ℕ
first_from p from l = first_of p (drop from l) + from

-- ---- the 68030
-- what the walk of an entry's key finds, at its page's first byte
abbrev pub found_for030 : Registers → Memory → ℕ → Entry → Outcome
found_for030 g m shift e = walk030 m g (first_of_page e.page shift) e.code every_level

-- 'code 1, 2, 5 or 6': an entry that a PLOAD cached under another code answers no access
abbrev pub is_access_code : ℕ → Bool
is_access_code code = eqb code 1 || eqb code 2 || eqb code 5 || eqb code 6

-- the walk ends in a page that S lets be cached, at the entry's base, and has WP only where the entry has it: with WP of its own alone an entry sends a write to the walk
abbrev pub is_end030 : Entry → ℕ → Bool → Bool → End → Bool
is_end030 e address wp sup (End.Page field consumed) =
    not (sup && not (bit_of e.code 2)) && (eqb (physical_of field consumed address) e.base && (e.wp || not wp))
is_end030 e address wp sup (End.Invalid indirect) = false
is_end030 e address wp sup (End.BusError at) = false
is_end030 e address wp sup End.LevelStop = false
is_end030 e address wp sup End.Config = false

-- the same of what a walk finds, its WP and S with its end
abbrev pub is_outcome030 : Entry → ℕ → Outcome → Bool
is_outcome030 e address o = is_end030 e address o.found.wp o.found.sup o.end

-- an entry, made under this shift, that an access can meet and whose key's walk finds something else
unfoldable pub stale030 : Registers → Memory → ℕ → Entry → Bool
stale030 g m shift e =
    e.valid && is_access_code e.code && not (is_outcome030 e (first_of_page e.page shift) (found_for030 g m shift e))

-- the first stale entry's index at `from` or above, and the number of entries or more where none is. 'A different shift misses'
abbrev pub first_stale030 : Registers → Memory → Cache030 → ℕ → Option ℕ → ℕ
first_stale030 g m c from None = length c.entries
first_stale030 g m c from (Some shift) =
    if eqb c.shift shift then first_from (stale030 g m shift) from c.entries else length c.entries

-- ---- the 68040
-- what the walk of a slot's key finds, at its page's first byte
abbrev pub found_for040 : Registers → Memory → Slot → Outcome040
found_for040 g m s = walk040 m g (first_of_page s.frame (page_bits g.tc)) s.supervisor

-- the walk ends in a page at the slot's base, and has W, or S for a user, only where the slot has it
abbrev pub is_end040 : ℕ → Slot → End040 → Bool
is_end040 tc s (End040.Resident field wp sup) =
    eqb (frame_of tc field) s.base && ((s.wp || not wp) && (s.supervisor || s.sup || not sup))
is_end040 tc s (End040.Absent missing) = false
is_end040 tc s (End040.Lost at) = false

-- a slot that an access can meet and whose key's walk finds something else
unfoldable pub stale040 : Registers → Memory → Slot → Bool
stale040 g m s = s.valid && not (is_end040 g.tc s (found_for040 g m s).end)

-- the first stale slot's index at `from` or above, and 64 or more where none is
abbrev pub first_stale040 : Registers → Memory → Cache040 → ℕ → ℕ
first_stale040 g m c from = first_from (stale040 g m) from c.slots

-- ---- the call
-- an index below the size is a stale entry's
abbrev pub named : (ℕ → Audit) → ℕ → ℕ → Audit
named stale size i = if ltb i size then stale i else Audit.Clean

-- family 30 has the 68030 cache, 40 and 60 the 68040's
unfoldable pub audit_family : Registers → Memory → Caches → ℕ → Audit
audit_family g m c from =
    if eqb g.family 30
    then named (λ (i : ℕ). Audit.Stale030 i) (length c.c030.entries) (first_stale030 g m c.c030 from (shift_of g.tc))
    else named (λ (i : ℕ). Audit.Stale040 i) (length c.c040.slots) (first_stale040 g m c.c040 from)

-- 1, 2, 3 and 4 can apply
abbrev pub audit_checks : Registers → Memory → Caches → Checks
audit_checks g m c =
    checks (no_family g.family) (bad_base m) (bad_range m) (bad_cache c.c030) false false false

-- the first stale entry at `from` or above. From 0, and then from each named index plus 1, every stale entry is named once (proofs/Said.antt)
unfoldable pub audit_from : Registers → Memory → Caches → ℕ → Audit
audit_from g m c from = unless (audit_checks g m c) (λ (n : ℕ). Audit.Refused n) (audit_family g m c from)

-- the first of all
abbrev pub audit : Registers → Memory → Caches → Audit
audit g m c = audit_from g m c 0

-- ---- what is said of one entry
-- the registers with the PMMU on and no transparent register that matches
abbrev pub bare : Registers → Registers
bare g =
    all_registers g.family true true g.tc g.crp.limit g.crp.address g.srp.limit g.srp.address 0 0 0 0 0 0

-- an access by its privilege and space alone: 'the CPU's own supervisor state' is its own, and it has no override
abbrev pub plain_access : Bool → Bool → Bool → ℕ → Access
plain_access supervisor instruction write address =
    record {
      address = address;
      write = write;
      supervisor = supervisor;
      instruction = instruction;
      own = supervisor;
      code = None;
      recorded = false;
    }

-- a read or a write of the byte at an address under a code: what the cache gives it, against the cacheless walk's answer
abbrev pub says : Registers → Memory → ℕ → ℕ → Bool → Option ℕ → Finding
says g m address code write cached =
    Finding.Says address code cached
    (cacheless (bare g) (plain_access (bit_of code 2) (eqb (code % 4) 2) write address) m).answer

-- of its page's first byte
abbrev pub finding030 : Registers → Memory → ℕ → Entry → Bool → Finding
finding030 g m shift e write =
    says g m (first_of_page e.page shift % 2 ^ 32) e.code write (if e.valid then permitted write e else None)

-- the walk of the 68040 is the same for data and for instructions
abbrev pub finding040 : Registers → Memory → Slot → Bool → Finding
finding040 g m s write =
    says g m (first_of_page s.frame (page_bits g.tc) % 2 ^ 32) (code_of s.supervisor false) write
    (slot_hit s.frame s.supervisor write s)

-- of entry i of the family's cache, for a read or a write. Past the end stands the empty entry
abbrev pub finding_family : Registers → Memory → Caches → ℕ → Bool → Finding
finding_family g m c i write =
    if eqb g.family 30
    then finding030 g m c.c030.shift (get_or c.c030.entries i no_entry) write
    else finding040 g m (get_or c.c040.slots i no_slot) write

-- what is said of entry i, or the refusal
unfoldable pub finding : Registers → Memory → Caches → ℕ → Bool → Finding
finding g m c i write = unless (audit_checks g m c) (λ (n : ℕ). Finding.Refused n) (finding_family g m c i write)
