-- Document 01's twelve marked examples, of the definitions: one statement over one table, by one computed test. Assumes nothing.
use Rattle.std.specs.Prelude.{Option, Some, None}
use Prim.Native.Nat.{ℕ, zero, suc, ◌+◌, ◌*◌, ◌/◌}
use mathlib.Core.Path.{◌≡◌, refl}
use mathlib.Core.List.{List, [], ◌∷◌, ◌++◌, map}
use mathlib.Core.Bool.{Bool, true, false}
use lib.ListN.{set, replicate}
use Rattle.definition.specs.Words.{any_of, all_of, count_of, first_of}
use Rattle.definition.specs.Memory.{Memory, memory}
use Rattle.definition.specs.Transparent.{transparent}
use Rattle.definition.specs.Walk030.{read_of, widths_of, walk_from, shift_of}
use Rattle.definition.specs.Walk040.{walk040}
use Rattle.definition.specs.Cache030.{matching, rested, touched, hit_of, after_hit, shifted, oldest, victim, inserted}
use Rattle.definition.specs.Cache040.{hit040, inserted040}
use Rattle.definition.specs.Refusal.{refusal_of}
use Rattle.definition.specs.Translate.{Caches, empty_caches, search030, translate030, translate040, in_order, translate}
use Rattle.definition.specs.Test.{test_in_order, test}
use Rattle.definition.specs.Probe.{probe_in_order, probe}
use Rattle.definition.specs.Calls.{Call, access, testing, probing, Line, A, F, T, N, calling}
use Rattle.definition.specs.declared.Registers.{Registers}

-- what is asked: a call, or the page shift that TC gives
pub data Question : Type 0 where
  call : Call → Question
  page_shift : Question

-- what it must give: a call's line in the trace, or the page shift
pub data Given : Type 0 where
  line : Line → Given
  shift : Option ℕ → Given

-- a row of the table: registers, longs by their addresses, and each question with what it must give
pub record Row : Type 0 where
  pub registers : Registers
  pub longs : List (ℕ × ℕ)
  pub asks : List (Question × Given)

-- 4,200 longs from address 0 on, zero but where the row says
abbrev pub longs_of : List (ℕ × ℕ) → List ℕ
longs_of [] = replicate 4200 0
longs_of (p ∷ l) = set (longs_of l) (p.0 / 4) p.1

-- the questions one after another, from these caches
abbrev pub asked : Registers → Memory → Caches → List (Question × Given) → List Given
asked g m c [] = []
asked g m c ((page_shift, e) ∷ rest) = shift (shift_of g.tc) ∷ asked g m c rest
asked g m c ((call k, e) ∷ rest) = line (calling g m c k).line ∷ asked g m (calling g m c k).caches rest

abbrev pub gives : Row → List Given
gives r = asked r.registers (memory (longs_of r.longs) 0 []) empty_caches r.asks

abbrev pub must : Row → List Given
must r = map (λ (q : Question × Given). q.1) r.asks

-- ---- the words of the table
-- enabled, no TT
abbrev pub registers : ℕ → ℕ → ℕ → Registers
registers family tc limit =
    record {
      family = family;
      present = true;
      enabled = true;
      tc = tc;
      crp = record { limit = limit; address = 0x1000 };
      srp = record { limit = 0; address = 0 };
      tt0 = 0;
      tt1 = 0;
      itt0 = 0;
      itt1 = 0;
      dtt0 = 0;
      dtt1 = 0;
    }

-- 'user data'
abbrev pub user : ℕ → Bool → Bool → Question
user address write recorded =
    call
    (access
    (record {
      address = address;
      write = write;
      supervisor = false;
      instruction = false;
      own = false;
      code = None;
      recorded = recorded;
    }))

abbrev pub read : Line → Question × Given
read must = (user 0x02041ABC false true, line must)

abbrev pub write : Line → Question × Given
write must = (user 0x02041ABC true true, line must)

abbrev pub ptest : ℕ → Line → Question × Given
ptest level must = (call (testing 1 false level 0x02041ABC), line must)

abbrev pub row : ℕ → ℕ → ℕ → List (ℕ × ℕ) → List (Question × Given) → Row
row family tc limit longs asks = record { registers = registers family tc limit; longs = longs; asks = asks }

-- 'family 30, .. TC 80C07760, CRP limit 80000002, CRP address 1000'
abbrev pub on030 : List (ℕ × ℕ) → List (Question × Given) → Row
on030 longs asks = row 30 0x80C07760 0x80000002 longs asks

-- 'Longs: 1004=2002, 2004=3002, 3004=55001', or others for the last two
abbrev pub tree : ℕ → ℕ → List (ℕ × ℕ)
tree second third = (0x1004, 0x2002) ∷ (0x2004, second) ∷ (0x3004, third) ∷ []

abbrev pub shift_is : ℕ → Option ℕ → Row
shift_is tc s = row 30 tc 0x80000002 [] ((page_shift, shift s) ∷ [])

-- example 12's pages: n of them from page i on, each mapped 100000 above itself
abbrev pub count_from : ℕ → ℕ → List ℕ
count_from i zero = []
count_from i (suc n) = i ∷ count_from (i + 1) n

abbrev pub page_long : ℕ → ℕ × ℕ
page_long i = (0x3000 + 4 * i, 0x100001 + 0x1000 * i)

abbrev pub pages_mapped : List (ℕ × ℕ)
pages_mapped = (0x1000, 0x2002) ∷ (0x2000, 0x3002) ∷ map page_long (count_from 1 23)

abbrev pub read_page : Bool → ℕ → ℕ → Question × Given
read_page recorded count i = (user (0x1000 * i) false recorded, line (A (0x100000 + 0x1000 * i) count))

abbrev pub here : ℕ → Question × Given
here i = (call (probing false false false (0x1000 * i)), line (A (0x100000 + 0x1000 * i) 0))

abbrev pub gone : ℕ → Question × Given
gone i = (call (probing false false false (0x1000 * i)), line N)

-- pages 1 to 22 read, a hit on page 1, page 23 read, and then what the cache holds
abbrev pub twenty_three : Bool → List (Question × Given) → Row
twenty_three recorded held =
    on030 pages_mapped
    (map (read_page true 3) (count_from 1 22) ++ (read_page recorded 0 1 ∷ read_page true 3 23 ∷ held))

-- ---- the table: the twelve examples by their numbers, some in several rows
abbrev pub rows : List Row
rows =
    -- 1. Read: 00055ABC, count 3. Again: count 0.
    on030 (tree 0x3002 0x55001) (read (A 0x55ABC 3) ∷ read (A 0x55ABC 0) ∷ [])
    -- 2. PTEST level 7: 0003, 3004. 3. Level 2: 0002, 2004.
    ∷ on030 (tree 0x3002 0x55001) (ptest 7 (T 0x0003 0x3004 3) ∷ ptest 2 (T 0x0002 0x2004 2) ∷ [])
    -- 4. 2004=00800001: 00801ABC, count 2.
    ∷ on030 (tree 0x00800001 0x55001) (read (A 0x00801ABC 2) ∷ [])
    -- 5. 2004=3006: read 00055ABC, then write WriteProtect, count 3; PTEST 0803.
    ∷ on030 (tree 0x3006 0x55001) (read (A 0x55ABC 3) ∷ write (F 2 4 0x02041ABC 3) ∷ ptest 7 (T 0x0803 0x3004 3) ∷ [])
    -- 6. 3004=4003, 4000=1, 4004=66000: 00066ABC, count 5, PTEST 0003, 4000.
    ∷ on030 ((0x4000, 1) ∷ (0x4004, 0x66000) ∷ tree 0x3002 0x4003) (read (A 0x66ABC 5) ∷ ptest 7 (T 0x0003 0x4000 5) ∷ [])
    -- 7. The same with 4000=0: Indirect; PTEST 0403.
    ∷ on030 ((0x4000, 0) ∷ (0x4004, 0x66000) ∷ tree 0x3002 0x4003) (read (F 2 2 0x02041ABC 5) ∷ ptest 7 (T 0x0403 0x4000 5) ∷ [])
    -- 8. CRP limit type 1: configuration fault; PTEST 8000, 1000.
    ∷ row 30 0x80C07760 0x80000001 (tree 0x3002 0x55001) (read (F 0 3 0x02041ABC 0) ∷ ptest 7 (T 0x8000 0x1000 0) ∷ [])
    -- 9. Widths 7, 0, 6: shift 25. IS 15, widths 15, 1: shift 1. Sum 32 or 0: none.
    ∷ shift_is 0x80C07060 (Some 25)
    ∷ shift_is 0x800FF100 (Some 1)
    ∷ shift_is 0x80008888 None
    ∷ shift_is 0x80000000 None
    -- 10. Family 40, TC 8000, 3004=55085: user write WriteProtect, user read SupervisorProtect.
    ∷ row 40 0x8000 0x80000002 (tree 0x3002 0x55085) (write (F 2 4 0x02041ABC 3) ∷ read (F 2 5 0x02041ABC 3) ∷ [])
    -- 11. Family 40, TC C000, 3000=55001: 00055ABC. The same with 3004=0, where an index by 17:12 would fault.
    ∷ row 40 0xC000 0x80000002 ((0x3000, 0x55001) ∷ tree 0x3002 0x55001) (read (A 0x55ABC 3) ∷ [])
    ∷ row 40 0xC000 0x80000002 ((0x3000, 0x55001) ∷ tree 0x3002 0) (read (A 0x55ABC 3) ∷ [])
    -- 12. Pages 1 to 22 inserted, recorded hit on 1, then 23: page 2 goes. Unrecorded: page 1 goes.
    ∷ twenty_three true (here 1 ∷ gone 2 ∷ map here (count_from 3 21))
    ∷ twenty_three false (gone 1 ∷ map here (count_from 2 22))
    ∷ []

pub twelve_examples : map gives rows ≡ map must rows
unfolding calling translate in_order translate030 translate040 search030 transparent walk_from read_of widths_of walk040 any_of all_of count_of first_of refusal_of test test_in_order probe probe_in_order matching rested touched hit_of after_hit shifted oldest victim inserted hit040 inserted040
twelve_examples = refl
