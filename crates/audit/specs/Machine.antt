-- The audit as a machine over the two arrays: what is known between two entries, and what one walk changes.
-- It serves the code alone; the meaning is `Audit` of `definition`.
use Rattle.std.specs.Prelude.{ℕ, ◌+◌, ◌*◌, ◌/◌, ◌%◌, ◌^◌, ◌≡◌, Bool, true, false, not, ◌&&◌, List, eqb, ltb, get_or, Option, Some, None}
use Rattle.std.specs.Prelude.{if◌then◌else◌}
use Rattle.definition.specs.Walk030.{shift_of}
use Rattle.definition.specs.Walk040.{page_bits}
use Rattle.definition.specs.Cache030.{Cache030}
use Rattle.definition.specs.Refusal.{no_family, bad_cache, refusal_of}
use Rattle.definition.specs.Audit.{is_access_code, is_end030, is_end040}
use Rattle.definition.specs.declared.Registers.{Registers}
use Rattle.definition.specs.declared.Audit.{Audit}
use Rattle.cache.specs.Packed.{odd}
use Rattle.cache.specs.Atc030.{entry_of, tags_of, pages_of, shift_in}
use Rattle.cache.specs.Atc040.{slot_of, keys_of, bases_of}
use Rattle.cache.specs.Pair.{SizedAll}
use Rattle.checks.specs.Given.{checks_of}
use Rattle.audit.specs.declared.Auditing.{Auditing}
use Rattle.audit.specs.declared.Cached.{Cached}
use Rattle.audit.specs.declared.walking.Way.{Way}
use Rattle.audit.specs.declared.walking.Walks.{Walks}
use Rattle.audit.specs.declared.walking.Walks.TheVariants as walks

-- ---- states
-- entry i is next
abbrev pub going_to : ℕ → Auditing
going_to i = record { over = false; answer = Audit.Clean; i = i }

abbrev pub done_by : Audit → Auditing
done_by a = record { over = true; answer = a; i = 0 }

-- entry `from` is next, if there is one
abbrev pub going_from : ℕ → ℕ → Auditing
going_from from size = if ltb from size then going_to from else done_by Audit.Clean

-- ---- where it begins
-- TC has the cache's shift
abbrev pub at_shift : ℕ → Option ℕ → Bool
at_shift s None = false
at_shift s (Some shift) = eqb s shift

unfoldable pub audit_refusal : Registers → Bool → Bool → Cache030 → ℕ
audit_refusal g two three c = refusal_of (checks_of (no_family g.family) false false two three (bad_cache c))

-- the 68030 at another shift has nothing to look at
abbrev pub begin_family : Registers → Cache030 → ℕ → Auditing
begin_family g c from =
    if eqb g.family 30
    then (if at_shift c.shift (shift_of g.tc) then going_from from 22 else done_by Audit.Clean)
    else going_from from 64

unfoldable pub audit_begin : Registers → Bool → Bool → Cache030 → ℕ → Auditing
audit_begin g two three c from =
    if eqb (audit_refusal g two three c) 0 then begin_family g c from else done_by (Audit.Refused (audit_refusal g two three c))

pub record Begun (s r : Auditing) (c3 c4 : List ℕ) : Type 0 where
  pub begins : r ≡ s
  pub sized : SizedAll c3 c4

-- ---- entry i: its two numbers and its page's shift
unfoldable pub cached_at : Registers → List ℕ → List ℕ → ℕ → Cached
cached_at g c3 c4 i =
    if eqb g.family 30
    then record { key = get_or (tags_of c3) i 0; page = get_or (pages_of c3) i 0; shift = shift_in c3 }
    else record { key = get_or (keys_of c4) i 0; page = get_or (bases_of c4) i 0; shift = page_bits g.tc }

pub record LooksAt (g : Registers) (c3 c4 : List ℕ) (i : ℕ) (r : Cached) : Type 0 where
  pub looks : r ≡ cached_at g c3 c4 i
  pub sized : SizedAll c3 c4

-- the walk that it wants, if it wants one
abbrev pub way030 : ℕ → Way
way030 t = if odd t && is_access_code (t / 2 % 8) then Way.By030 (t / 2 % 8) else Way.Idle

abbrev pub way040 : ℕ → Way
way040 k = if odd k then Way.By040 (odd (k / 2)) else Way.Idle

unfoldable pub way_for : Registers → Cached → Way
way_for g x = if eqb g.family 30 then way030 x.key else way040 x.key

-- the first address of its page, in 32 bits
abbrev pub wrapped_of : ℕ → ℕ → ℕ
wrapped_of page shift = page * 2 ^ shift % 2 ^ 32

unfoldable pub address_for : Registers → Cached → ℕ
address_for g x = if eqb g.family 30 then wrapped_of (x.key / 16) x.shift else wrapped_of (x.key / 4) x.shift

-- ---- what its walk says
abbrev pub stale_by030 : ℕ → ℕ → ℕ → Walks → Bool
stale_by030 t p address walks.Idle = false
stale_by030 t p address (walks.By030 w) = not (is_end030 (entry_of t p 0) address w.wp w.sup w.end)
stale_by030 t p address (walks.By040 w) = false

abbrev pub stale_by040 : ℕ → ℕ → ℕ → Walks → Bool
stale_by040 tc k b walks.Idle = false
stale_by040 tc k b (walks.By030 w) = false
stale_by040 tc k b (walks.By040 w) = not (is_end040 tc (slot_of k b) w.end)

abbrev pub turned_of : Bool → ℕ → ℕ → Audit → Auditing
turned_of stale i last named = if stale then done_by named else if ltb i last then going_to (i + 1) else done_by Audit.Clean

unfoldable pub audit_took : Registers → ℕ → Cached → ℕ → Walks → Auditing
audit_took g i x address w =
    if eqb g.family 30
    then turned_of (stale_by030 x.key x.page address w) i 21 (Audit.Stale030 i)
    else turned_of (stale_by040 g.tc x.key x.page w) i 63 (Audit.Stale040 i)
