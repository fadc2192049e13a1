-- Each kind of damage that the audit names and each harmless kind that it passes over, of both caches: one statement over one table, by one computed
-- test; and the guard of README's sample, with its flush and without. Assumes nothing.
use Rattle.std.specs.Prelude.{Some, None}
use Prim.Native.Nat.{ℕ}
use mathlib.Core.Path.{◌≡◌, refl}
use mathlib.Core.List.{List, [], ◌∷◌, ◌++◌, map}
use mathlib.Core.Bool.{Bool, true, false}
use lib.ListN.{replicate}
use Rattle.definition.specs.Words.{any_of, first_of}
use Rattle.definition.specs.Memory.{memory, touches_of}
use Rattle.definition.specs.Transparent.{transparent}
use Rattle.definition.specs.Walk030.{read_of, widths_of, walk_from}
use Rattle.definition.specs.Walk040.{walk040}
use Rattle.definition.specs.Cache030.{Entry, no_entry, empty030, matching, rested, hit_of, after_hit, shifted, oldest, victim, inserted, flushed_page}
use Rattle.definition.specs.Cache040.{Slot, no_slot, empty040}
use Rattle.definition.specs.Refusal.{refusal_of}
use Rattle.definition.specs.Translate.{Caches, search030, translate030, in_order, translate}
use Rattle.definition.specs.Flush.{flush_page}
use Rattle.definition.specs.Audit.{stale030, stale040, audit_family, audit_from, audit, finding}
use Rattle.definition.specs.Calls.{access, flushing_page, calling}
use Rattle.definition.specs.Trace.{Record, Loads, Calls, Stores, memory_of, step_of}
use Rattle.definition.proofs.Marked.{kept_after, warmed, audit_of}
use Rattle.definition.specs.declared.Audit.{Audit}
use Rattle.definition.specs.declared.FaultCause.TheVariants as cause
use Rattle.definition.specs.declared.FaultKind.TheVariants as kind
use Rattle.definition.specs.declared.Finding.{Finding}
use Rattle.definition.specs.declared.Registers.{Registers}
use Rattle.definition.specs.declared.Translation.{Translation}
use Rattle.definition.proofs.Examples.{longs_of, tree}
use Rattle.definition.proofs.Examples as examples

-- ---- the words of the table
-- registers, longs by their addresses, both caches, and what the audit must say
pub record Row : Type 0 where
  pub registers : Registers
  pub longs : List (ℕ × ℕ)
  pub caches : Caches
  pub says : Audit

abbrev pub audited : Row → Audit
audited r = audit r.registers (memory (longs_of r.longs) 0 []) r.caches

-- the registers of document 01's examples: SRP is no table, and is used with TC bit 25
abbrev pub plain : Registers
plain = examples.registers 30 0x80C07760 0x80000002

abbrev pub split : Registers
split = examples.registers 30 0x82C07760 0x80000002

-- their page, 02041, as an entry of this code, base and WP
abbrev pub cached_as : ℕ → ℕ → Bool → Entry
cached_as code base wp = record { valid = true; code = code; page = 0x2041; base = base; wp = wp; stamp = 1 }

-- a 68030 cache of these entries first, made under a shift
abbrev pub at030 : ℕ → List Entry → Caches
at030 shift entries =
    record { c030 = record { entries = entries ++ replicate 20 no_entry; recent = 0; clock = 1; shift = shift }; c040 = empty040 }

abbrev pub row030 : Registers → ℕ → List Entry → Audit → Row
row030 g third entries says = record { registers = g; longs = tree 0x3002 third; caches = at030 12 entries; says = says }

-- one entry, at the index 1
abbrev pub one030 : ℕ → Entry → Audit → Row
one030 third e says = row030 plain third (no_entry ∷ e ∷ []) says

-- the same page as the 68040 has it, whose slot is 1
abbrev pub slot_as : Bool → ℕ → Bool → Bool → Slot
slot_as supervisor base wp sup = record { valid = true; frame = 0x2041; supervisor = supervisor; base = base; wp = wp; sup = sup }

abbrev pub at040 : Slot → Caches
at040 s = record { c030 = empty030; c040 = record { slots = no_slot ∷ s ∷ replicate 62 no_slot } }

-- registers whose roots are both that table; TT0 matches every access, and the PMMU is off
abbrev pub both : ℕ → ℕ → Registers
both family tc =
    record {
      family = family;
      present = true;
      enabled = false;
      tc = tc;
      crp = record { limit = 0x80000002; address = 0x1000 };
      srp = record { limit = 0x80000002; address = 0x1000 };
      tt0 = 0x00FF8107;
      tt1 = 0;
      itt0 = 0;
      itt1 = 0;
      dtt0 = 0;
      dtt1 = 0;
    }

abbrev pub one040 : ℕ → Slot → Audit → Row
one040 third s says = record { registers = both 40 0x8000; longs = tree 0x3002 third; caches = at040 s; says = says }

-- ---- the table
abbrev pub rows : List Row
rows =
    -- what the walk finds, under each code of an access
    one030 0x55001 (cached_as 1 0x55000 false) Audit.Clean
    ∷ one030 0x55001 (cached_as 6 0x55000 false) Audit.Clean
    -- the page is gone: the guard
    ∷ one030 0 (cached_as 1 0x55000 false) (Audit.Stale030 1)
    -- another base, in data space and in program space
    ∷ one030 0x66001 (cached_as 1 0x55000 false) (Audit.Stale030 1)
    ∷ one030 0x66001 (cached_as 2 0x55000 false) (Audit.Stale030 1)
    ∷ one030 0x66001 (cached_as 5 0x55000 false) (Audit.Stale030 1)
    ∷ one030 0x66001 (cached_as 6 0x55000 false) (Audit.Stale030 1)
    -- WP in the tables alone; WP in the entry alone sends a write to the walk
    ∷ one030 0x55005 (cached_as 1 0x55000 false) (Audit.Stale030 1)
    ∷ one030 0x55005 (cached_as 1 0x55000 true) Audit.Clean
    ∷ one030 0x55001 (cached_as 1 0x55000 true) Audit.Clean
    -- S, by a long descriptor: a user's entry is wrong, a supervisor's right
    ∷ record { registers = plain; longs = (0x4000, 0x101) ∷ (0x4004, 0x55000) ∷ tree 0x3002 0x4003; caches = at030 12 (cached_as 1 0x55000 false ∷ no_entry ∷ []); says = Audit.Stale030 0 }
    ∷ record { registers = plain; longs = (0x4000, 0x101) ∷ (0x4004, 0x55000) ∷ tree 0x3002 0x4003; caches = at030 12 (cached_as 5 0x55000 false ∷ no_entry ∷ []); says = Audit.Clean }
    -- each key's own root: the supervisor's has no table here
    ∷ row030 split 0x55001 (cached_as 1 0x55000 false ∷ no_entry ∷ []) Audit.Clean
    ∷ row030 split 0x55001 (cached_as 5 0x55000 false ∷ no_entry ∷ []) (Audit.Stale030 0)
    -- no access meets a raw code, an entry that is not valid, or one under another shift
    ∷ one030 0x66001 (cached_as 3 0x55000 false) Audit.Clean
    ∷ one030 0x66001 (record { valid = false; code = 1; page = 0x2041; base = 0x55000; wp = false; stamp = 1 }) Audit.Clean
    ∷ record { registers = plain; longs = tree 0x3002 0x66001; caches = at030 13 (cached_as 1 0x55000 false ∷ no_entry ∷ []); says = Audit.Clean }
    -- neither a transparent register nor whether the PMMU is on changes what it says
    ∷ row030 (both 30 0x80C07760) 0 (cached_as 1 0x55000 false ∷ no_entry ∷ []) (Audit.Stale030 0)
    ∷ row030 (both 30 0x80C07760) 0x55001 (cached_as 1 0x55000 false ∷ no_entry ∷ []) Audit.Clean
    -- the first of two, and the second of one key, which an eviction brings to light
    ∷ row030 plain 0x66001 (cached_as 1 0x55000 false ∷ cached_as 2 0x55000 false ∷ []) (Audit.Stale030 0)
    ∷ row030 plain 0x55001 (cached_as 1 0x55000 false ∷ cached_as 1 0x66000 false ∷ []) (Audit.Stale030 1)
    -- the 68040: right; gone; another base; W and S, in the tables alone and in the slot alone; S for a supervisor
    ∷ one040 0x55001 (slot_as false 0x55000 false false) Audit.Clean
    ∷ one040 0 (slot_as false 0x55000 false false) (Audit.Stale040 1)
    ∷ one040 0x66001 (slot_as false 0x55000 false false) (Audit.Stale040 1)
    ∷ one040 0x66001 (slot_as true 0x55000 false false) (Audit.Stale040 1)
    ∷ one040 0x55005 (slot_as false 0x55000 false false) (Audit.Stale040 1)
    ∷ one040 0x55001 (slot_as false 0x55000 true false) Audit.Clean
    ∷ one040 0x55081 (slot_as false 0x55000 false false) (Audit.Stale040 1)
    ∷ one040 0x55081 (slot_as true 0x55000 false false) Audit.Clean
    ∷ one040 0x55001 (slot_as true 0x55000 false true) Audit.Clean
    -- each slot's own root: the supervisor's has no table here
    ∷ record { registers = examples.registers 40 0x8000 0x80000002; longs = tree 0x3002 0x55001; caches = at040 (slot_as false 0x55000 false false); says = Audit.Clean }
    ∷ record { registers = examples.registers 40 0x8000 0x80000002; longs = tree 0x3002 0x55001; caches = at040 (slot_as true 0x55000 false false); says = Audit.Stale040 1 }
    -- family 60 has the 68040's, and 30 does not look at it
    ∷ record { registers = both 60 0x8000; longs = tree 0x3002 0; caches = at040 (slot_as false 0x55000 false false); says = Audit.Stale040 1 }
    ∷ record { registers = plain; longs = tree 0x3002 0; caches = at040 (slot_as false 0x55000 false false); says = Audit.Clean }
    -- a family that there is not, and a shift above 31
    ∷ row030 (examples.registers 20 0x80C07760 0x80000002) 0x55001 [] (Audit.Refused 1)
    ∷ record { registers = plain; longs = tree 0x3002 0; caches = at030 32 []; says = Audit.Refused 4 }
    ∷ []

pub each_kind : map audited rows ≡ map (λ (r : Row). r.says) rows
unfolding audit_from audit_family stale030 stale040 first_of walk_from read_of widths_of walk040 refusal_of any_of touches_of
each_kind = refl

-- ---- one after the other
-- of two stale entries the first, then the second, and then no more
abbrev pub two : ℕ → Audit
two from = audit_from plain (memory (longs_of (tree 0x3002 0x66001)) 0 []) (at030 12 (cached_as 1 0x55000 false ∷ cached_as 2 0x55000 false ∷ [])) from

pub one_by_one : map two (0 ∷ 1 ∷ 2 ∷ []) ≡ Audit.Stale030 0 ∷ Audit.Stale030 1 ∷ Audit.Clean ∷ []
unfolding audit_from audit_family stale030 first_of walk_from read_of widths_of refusal_of any_of touches_of
one_by_one = refl

-- what is said of an entry with WP where the tables have none: a read hits, a write is the walk's
abbrev pub protected : Bool → Finding
protected write = finding plain (memory (longs_of (tree 0x3002 0x55001)) 0 []) (at030 12 (cached_as 1 0x55000 true ∷ no_entry ∷ [])) 0 write

pub said_of_wp :
    map protected (false ∷ true ∷ [])
    ≡ Finding.Says 0x02041000 1 (Some 0x55000) (Translation.Address 0x55000) ∷ Finding.Says 0x02041000 1 None (Translation.Address 0x55000) ∷ []
unfolding finding translate in_order transparent translate030 search030 hit_of after_hit matching inserted victim shifted rested oldest first_of walk_from read_of widths_of refusal_of any_of touches_of
said_of_wp = refl

-- nor what the tables say
pub said_behind :
    finding (both 30 0x80C07760) (memory (longs_of (tree 0x3002 0)) 0 []) (at030 12 (cached_as 1 0x55000 false ∷ no_entry ∷ [])) 0 true
    ≡ Finding.Says 0x02041000 1 (Some 0x55000) (Translation.Fault kind.AccessLevelViolation cause.PageFault 0x02041000)
unfolding finding translate in_order transparent translate030 search030 hit_of after_hit matching inserted victim shifted rested oldest first_of walk_from read_of widths_of refusal_of any_of touches_of
said_behind = refl

-- ---- the guard
-- README's sample up to the guard: registers, three longs, a read of 02041ABC
abbrev pub mapped : List Record
mapped =
    Loads plain
    ∷ Stores 0x1004 0x2002
    ∷ Stores 0x2004 0x3002
    ∷ Stores 0x3004 0x55001
    ∷ Calls (access (record { address = 0x02041ABC; write = false; supervisor = false; instruction = false; own = false; code = None; recorded = true }))
    ∷ []

-- the guard: the page's descriptor is cleared
abbrev pub guarded : List Record
guarded = mapped ++ (Stores 0x3004 0 ∷ [])

-- and the page flushed
abbrev pub flushed : List Record
flushed = guarded ++ (Calls (flushing_page 1 7 0x02041ABC) ∷ [])

-- the snapshot is clean before the guard, names the page's entry after it, and is clean again once the page is flushed
pub guard_audited : (audit_of (warmed mapped) ≡ Audit.Clean) × ((audit_of (warmed guarded) ≡ Audit.Stale030 0) × (audit_of (warmed flushed) ≡ Audit.Clean))
unfolding kept_after step_of calling translate in_order transparent translate030 search030 hit_of after_hit matching inserted victim shifted rested oldest flush_page flushed_page audit_from audit_family stale030 stale040 first_of walk_from read_of widths_of refusal_of any_of touches_of
guard_audited = (refl, (refl, refl))

-- what is said of that entry: the cache gives the page's first address, the tables a page fault
pub guard_said :
    finding plain (memory_of (warmed guarded)) (warmed guarded).caches 0 false
    ≡ Finding.Says 0x02041000 1 (Some 0x55000) (Translation.Fault kind.AccessLevelViolation cause.PageFault 0x02041000)
unfolding finding kept_after step_of calling translate in_order transparent translate030 search030 hit_of after_hit matching inserted victim shifted rested oldest first_of walk_from read_of widths_of refusal_of any_of touches_of
guard_said = refl
