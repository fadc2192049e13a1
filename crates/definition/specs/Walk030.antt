-- Document 01, 'The 68030 walk': the levels that TC, the address and the code settle, and what walking them finds.
use Rattle.std.specs.Prelude.{ℕ, ◌+◌, ◌-◌, ◌*◌, ◌/◌, ◌%◌, ◌^◌, List, [], ◌∷◌, ◌++◌, Bool, true, false, ◌&&◌, ◌||◌, ltb, leb, eqb, if◌then◌else◌, Option, Some, None}
use Rattle.definition.specs.Words.{bit_of}
use Rattle.definition.specs.Memory.{Memory, fetch_of}
use Rattle.definition.specs.Registers.{root_of}
use Rattle.definition.specs.Types.{End, Page, Invalid, LevelStop, BusError, Config, Registers, Root}

-- ---- descriptors
-- 'entry i is 4i or 8i after it, wrapping'
abbrev pub size_of : Bool → ℕ
size_of true = 8
size_of false = 4

-- where entry i of a table stands
abbrev pub entry_of : ℕ → ℕ → Bool → ℕ
entry_of table index long = (table + index * size_of long) % 2 ^ 32

-- a descriptor that was read: its type, its address field, WP and S; or the address of the long of it that failed. With each, the longs asked for
pub data Descriptor : Type 0 where
  Whole : ℕ → ℕ → Bool → Bool → List ℕ → Descriptor
  Lost : ℕ → List ℕ → Descriptor

-- 'Short descriptors are one long ..; type in 1:0 and WP in bit 2 of the first'
abbrev pub short_of : ℕ → Option ℕ → Descriptor
short_of at (Some first) = Whole (first % 4) first (bit_of first 2) false (at ∷ [])
short_of at None = Lost at (at ∷ [])

-- '.. long ones two; .. S in bit 8 of the first long of a long one; the address field is the last long', the one at `next`
abbrev pub on_second : ℕ → ℕ → ℕ → Option ℕ → Descriptor
on_second first at next (Some second) = Whole (first % 4) second (bit_of first 2) (bit_of first 8) (at ∷ next ∷ [])
on_second first at next None = Lost next (at ∷ next ∷ [])

-- by its first long: the second is asked for where the first was given
abbrev pub long_of : Memory → ℕ → Option ℕ → Descriptor
long_of m at (Some first) = on_second first at (entry_of at 1 false) (fetch_of m (entry_of at 1 false))
long_of m at None = Lost at (at ∷ [])

-- the descriptor at `at`, short or long
unfoldable pub read_of : Memory → ℕ → Bool → Descriptor
read_of m at long = if long then long_of m at (fetch_of m at) else short_of at (fetch_of m at)

-- ---- levels
-- 'the four index widths TIA, TIB, TIC and TID (TC nibbles 15:12 to 3:0)'
unfoldable pub widths_of : ℕ → List ℕ
widths_of tc = tc / 2 ^ 12 % 16 ∷ tc / 2 ^ 8 % 16 ∷ tc / 2 ^ 4 % 16 ∷ tc % 16 ∷ []

-- 'stopping at the first zero'
abbrev pub used : List ℕ → List ℕ
used [] = []
used (w ∷ ws) = if eqb w 0 then [] else w ∷ used ws

-- 'IS (19:16) is consumed first'
abbrev pub is_of : ℕ → ℕ
is_of tc = tc / 2 ^ 16 % 16

-- 'An index is the address shifted left by (consumed mod 32), bits lost, then right by 32 - width.'
abbrev pub top_index : ℕ → ℕ → ℕ → ℕ
top_index address consumed width = address * 2 ^ (consumed % 32) % 2 ^ 32 / 2 ^ (32 - width)

-- one level: its index, and the bits consumed after it
pub record Step : Type 0 where
  pub index : ℕ
  pub consumed : ℕ

-- the levels of these widths, after so many bits
abbrev pub steps : ℕ → ℕ → List ℕ → List Step
steps address consumed [] = []
steps address consumed (w ∷ ws) =
    record { index = top_index address consumed w; consumed = consumed + w } ∷ steps address (consumed + w) ws

-- 'TC bit 24 adds a function-code level first, indexed by the code and consuming nothing.'
abbrev pub steps_with : Bool → ℕ → ℕ → ℕ → List ℕ → List Step
steps_with true code address consumed ws = record { index = code; consumed = consumed } ∷ steps address consumed ws
steps_with false code address consumed ws = steps address consumed ws

-- the levels of a walk
abbrev pub steps_of : ℕ → ℕ → ℕ → List Step
steps_of tc address code = steps_with (bit_of tc 24) code address (is_of tc) (used (widths_of tc))

-- ---- walking
-- what a walk has found so far: WP, S, the levels, the last descriptor's address, and the address of each long that it asked for
pub record Found : Type 0 where
  pub wp : Bool
  pub sup : Bool
  pub levels : ℕ
  pub last : ℕ
  pub asked : List ℕ

-- how a walk ended, with what it found
pub record Outcome : Type 0 where
  pub end : End
  pub found : Found

-- by its parts
abbrev pub ended : End → Found → Outcome
ended e f = record { end = e; found = f }

-- these longs were asked for, for the descriptor at `at`
abbrev pub asking : ℕ → List ℕ → Found → Found
asking at asked f = record { wp = f.wp; sup = f.sup; levels = f.levels; last = at; asked = f.asked ++ asked }

-- one level more
abbrev pub deeper : Found → Found
deeper f = record { wp = f.wp; sup = f.sup; levels = f.levels + 1; last = f.last; asked = f.asked }

-- 'WP and S add up'
abbrev pub guarded : Bool → Bool → Found → Found
guarded wp sup f = record { wp = f.wp || wp; sup = f.sup || sup; levels = f.levels; last = f.last; asked = f.asked }

-- 'type 0 invalid, type 1 page. .. Types 2 and 3 name the next table'
abbrev pub by_kind : {A : Type 0} → ℕ → A → A → A → A
by_kind kind invalid page table = if eqb kind 1 then page else if ltb kind 2 then invalid else table

-- 'must be type 1, adds its own WP and S even if it isn't .., and counts no level'
abbrev pub on_target : ℕ → ℕ → Found → Descriptor → Outcome
on_target consumed at f (Lost lost asked) = ended (BusError lost) (asking at asked f)
on_target consumed at f (Whole kind field wp sup asked) =
    ended (if eqb kind 1 then Page field consumed else Invalid true) (guarded wp sup (asking at asked f))

-- 'Types 2 and 3 name the next table, short or long, at field & FFFFFFF0. On the last level they are indirect: the target is at field & FFFFFFFC, in that format' .. '(the indirect one adds none)'
abbrev pub on_table : Memory → ℕ → ℕ → ℕ → Bool → Bool → Found → List Step → (ℕ → Bool → Found → Outcome) → Outcome
on_table m consumed kind field wp sup f [] next =
    on_target consumed (field / 4 * 4) f (read_of m (field / 4 * 4) (eqb kind 3))
on_table m consumed kind field wp sup f (step ∷ rest) next = next (field / 16 * 16) (eqb kind 3) (guarded wp sup f)

-- 'The walk ends at the first descriptor that decides'; 'WP and S add up over all but type 0'; 'A failing fetch isn't in N.'
abbrev pub on_descriptor : Memory → ℕ → ℕ → Found → List Step → (ℕ → Bool → Found → Outcome) → Descriptor → Outcome
on_descriptor m consumed at f rest next (Lost lost asked) = ended (BusError lost) (asking at asked f)
on_descriptor m consumed at f rest next (Whole kind field wp sup asked) =
    by_kind kind
    (ended (Invalid false) (deeper (asking at asked f)))
    (ended (Page field consumed) (guarded wp sup (deeper (asking at asked f))))
    (on_table m consumed kind field wp sup (deeper (asking at asked f)) rest next)

-- 'at most that many levels'. No level left does not come up: the last one ends or is indirect
unfoldable pub walk_from : Memory → ℕ → List Step → ℕ → Bool → Found → Outcome
walk_from m limit [] table long f = ended Config f
walk_from m limit (step ∷ rest) table long f =
    if leb limit f.levels
    then ended LevelStop f
    else on_descriptor m step.consumed (entry_of table step.index long) f rest (λ t l g. walk_from m limit rest t l g)
    (read_of m (entry_of table step.index long) long)

-- 'the unmasked root address for configuration'
abbrev pub start : ℕ → Found
start at = record { wp = false; sup = false; levels = 0; last = at; asked = [] }

-- 'Root type is limit bits 1:0: 2 short, 3 long, 0 or 1 a configuration fault. The table is at address & FFFFFFF0'; 'No level at all is a configuration fault too.'
abbrev pub walk_steps : Memory → Root → ℕ → List Step → Outcome
walk_steps m root limit [] = ended Config (start root.address)
walk_steps m root limit (step ∷ rest) =
    if ltb (root.limit % 4) 2
    then ended Config (start root.address)
    else walk_from m limit (step ∷ rest) (root.address / 16 * 16) (eqb (root.limit % 4) 3) (start root.address)

-- a walk by TC and its root
abbrev pub outcome_of : Memory → ℕ → Root → ℕ → ℕ → ℕ → Outcome
outcome_of m tc root address code limit = walk_steps m root limit (steps_of tc address code)

-- a walk by the registers, of at most so many levels
abbrev pub walk030 : Memory → Registers → ℕ → ℕ → ℕ → Outcome
walk030 m g address code limit = outcome_of m g.tc (root_of g code) address code limit

-- as many levels as any walk can have: the function code's and four widths
abbrev pub every_level : ℕ
every_level = 5

-- ---- the physical address
-- 'the low 32 - consumed bits of the address (0 if consumed is 32 or more)'
abbrev pub low_of : ℕ → ℕ → ℕ
low_of address consumed = address % 2 ^ (32 - consumed)

-- 'Physical = (field & FFFFFF00) + the low 32 - consumed bits of the address .., wrapping.'
abbrev pub physical_of : ℕ → ℕ → ℕ → ℕ
physical_of field consumed address = (field / 256 * 256 + low_of address consumed) % 2 ^ 32

-- ---- the page shift
-- 'that sum'
abbrev pub sum_of : List ℕ → ℕ
sum_of [] = 0
sum_of (w ∷ ws) = w + sum_of ws

-- 'The page shift is 32 - (IS + levels up to the first zero) if that sum is 1 to 31; else nothing is cached.'
abbrev pub shift_from : ℕ → Option ℕ
shift_from sum = if leb 1 sum && leb sum 31 then Some (32 - sum) else None

-- the page shift that TC gives
abbrev pub shift_of : ℕ → Option ℕ
shift_of tc = shift_from (is_of tc + sum_of (used (widths_of tc)))
