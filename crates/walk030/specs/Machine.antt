-- The 68030 walk as a machine: what is known before a descriptor, and what one descriptor changes.
-- This serves the code alone; the meaning is `Walk030` of `definition`.
use Rattle.std.specs.Prelude.{ℕ, ◌+◌, ◌*◌, ◌/◌, ◌%◌, List, Bool, true, false, not, ◌&&◌, ◌||◌, get_or, ltb, leb, eqb}
use Rattle.std.specs.Prelude.{if◌then◌else◌, Option, Some, None, Result, Ok, Err}
use Rattle.definition.specs.Words.{bit_of}
use Rattle.definition.specs.Walk030.{entry_of, is_of, top_index}
use Rattle.memory.specs.Descriptors.{kind_of}
use Rattle.memory.specs.declared.descriptor.Descriptor.{Descriptor}
use Rattle.memory.specs.declared.descriptor.Kind.{Kind}
use Rattle.memory.specs.declared.descriptor.Kind.TheVariants.{Invalid, Page, Table}
use Rattle.memory.specs.declared.descriptor.Lost.{Lost}
use Rattle.definition.specs.declared.End.{End}
use Rattle.definition.specs.declared.End.TheVariants.{Config}
use Rattle.definition.specs.declared.Root.{Root}
use Rattle.walk030.specs.declared.Walked.{Walked}
use Rattle.walk030.specs.declared.machine.Walking030.{Walking030}

-- the root or the widths leave nothing to walk
abbrev pub no_walk : ℕ → ℕ → Bool → Bool
no_walk kind n coded = ltb kind 2 || (eqb n 0 && not coded)

abbrev pub misconfigured_of : Root → Walked
misconfigured_of root = record { end = Config; wp = false; sup = false; levels = 0; last = root.address; asked = 0 }

-- where a walk begins in tables of long descriptors, or of short ones
abbrev pub begun_of : ℕ → Root → Bool → Walking030
begun_of tc root long =
    record {
      target = false;
      coded = bit_of tc 24;
      consumed = is_of tc;
      k = 0;
      table = root.address / 16 * 16;
      long = long;
      wp = false;
      sup = false;
      levels = 0;
      asked = 0;
      last = root.address;
    }

-- .. by the root's type, where n widths are used
abbrev pub begin_by : ℕ → Root → ℕ → Kind → Option Walking030
begin_by tc root n Invalid = None
begin_by tc root n Page = None
begin_by tc root n (Table long) = if eqb n 0 && not (bit_of tc 24) then None else Some (begun_of tc root long)

abbrev pub begin_of : ℕ → Root → ℕ → Option Walking030
begin_of tc root n = begin_by tc root n (kind_of (root.limit % 4))

-- the level stop
abbrev pub at_limit : ℕ → Walking030 → Bool
at_limit limit s = not s.target && leb limit s.levels

-- once the level's descriptor is known
abbrev pub aimed_of : Walking030 → Bool → ℕ → ℕ → ℕ → Walking030
aimed_of s coded consumed k last =
    record {
      target = s.target;
      coded = coded;
      consumed = consumed;
      k = k;
      table = s.table;
      long = s.long;
      wp = s.wp;
      sup = s.sup;
      levels = s.levels;
      asked = s.asked;
      last = last;
    }

abbrev pub next_k : ℕ → ℕ
next_k k = if ltb k 4 then k + 1 else k

unfoldable pub aim_of : List ℕ → ℕ → ℕ → Walking030 → Walking030
aim_of ws address code s =
    if s.target
    then s
    else if s.coded
    then aimed_of s false s.consumed s.k (entry_of s.table code s.long)
    else aimed_of s s.coded (s.consumed + get_or ws s.k 0) (next_k s.k)
    (entry_of s.table (top_index address s.consumed (get_or ws s.k 0)) s.long)

-- how many longs were asked for a descriptor
abbrev pub asked_of : Result Descriptor Lost → ℕ
asked_of (Ok d) = d.asked
asked_of (Err lost) = lost.asked

-- its WP and S count; n is the number of the widths that are used
abbrev pub adds_by : Kind → Bool → Bool
adds_by Invalid more = false
adds_by Page more = true
adds_by (Table long) more = more

abbrev pub adds_of : ℕ → Walking030 → Kind → Bool
adds_of n s kind = if s.target then true else adds_by kind (not (eqb s.k n))

abbrev pub levels_of : Walking030 → ℕ
levels_of s = if s.target then s.levels else s.levels + 1

-- with what was found
abbrev pub held_of : Walking030 → Bool → Bool → ℕ → ℕ → Walking030
held_of s wp sup levels asked =
    record {
      target = s.target;
      coded = s.coded;
      consumed = s.consumed;
      k = s.k;
      table = s.table;
      long = s.long;
      wp = wp;
      sup = sup;
      levels = levels;
      asked = asked;
      last = s.last;
    }

unfoldable pub seen_of : ℕ → Walking030 → Result Descriptor Lost → Walking030
seen_of n s (Err lost) = held_of s s.wp s.sup s.levels (s.asked + lost.asked)
seen_of n s (Ok d) =
    held_of s (s.wp || (adds_of n s d.kind && d.wp)) (s.sup || (adds_of n s d.kind && d.sup)) (levels_of s) (s.asked + d.asked)

-- to the target of an indirect descriptor, or to the next table
abbrev pub to_target : Walking030 → Bool → ℕ → Walking030
to_target s long field =
    record {
      target = true;
      coded = s.coded;
      consumed = s.consumed;
      k = s.k;
      table = s.table;
      long = long;
      wp = s.wp;
      sup = s.sup;
      levels = s.levels;
      asked = s.asked;
      last = field / 4 * 4;
    }

abbrev pub to_table : Walking030 → Bool → ℕ → Walking030
to_table s long field =
    record {
      target = s.target;
      coded = s.coded;
      consumed = s.consumed;
      k = s.k;
      table = field / 16 * 16;
      long = long;
      wp = s.wp;
      sup = s.sup;
      levels = s.levels;
      asked = s.asked;
      last = s.last;
    }

abbrev pub onward_of : ℕ → Walking030 → Bool → ℕ → Walking030
onward_of n s long field = if eqb s.k n then to_target s long field else to_table s long field

abbrev pub answered : Walking030 → End → Walked
answered s e = record { end = e; wp = s.wp; sup = s.sup; levels = s.levels; last = s.last; asked = s.asked }
