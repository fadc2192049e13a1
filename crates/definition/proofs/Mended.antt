-- What document 02's requests mend, of the definitions: one statement over one table for each, by one computed test. Every row is asked on the tree of
-- document 01's examples, from empty caches. Assumes nothing.
use Rattle.std.specs.Prelude.{Option, Some, None}
use Prim.Native.Nat.{ℕ}
use mathlib.Core.Path.{◌≡◌, refl}
use mathlib.Core.List.{List, [], ◌∷◌, map}
use mathlib.Core.Bool.{Bool, true, false}
use Rattle.definition.specs.Words.{any_of, all_of, count_of, first_of}
use Rattle.definition.specs.Memory.{memory, touches_of}
use Rattle.definition.specs.Transparent.{transparent}
use Rattle.definition.specs.Walk030.{read_of, widths_of, walk_from}
use Rattle.definition.specs.Cache030.{matching, rested, touched, hit_of, after_hit, shifted, oldest, victim, inserted, flushed_page}
use Rattle.definition.specs.Refusal.{refusal_of}
use Rattle.definition.specs.Translate.{empty_caches, search030, translate030, in_order, translate}
use Rattle.definition.specs.Load.{load_in_order, load}
use Rattle.definition.specs.Test.{test_in_order, test}
use Rattle.definition.specs.Probe.{probe_in_order, probe}
use Rattle.definition.specs.Calls.{Call, access, loading, testing, probing, Line, A, L, T, N, calling}
use Rattle.definition.specs.declared.Registers.{Registers}
use Rattle.definition.proofs.Examples.{longs_of, tree}

-- registers, a call, and the line that it must give
pub record Row : Type 0 where
  pub registers : Registers
  pub call : Call
  pub must : Line

abbrev pub gives : Row → Line
gives r = (calling r.registers (memory (longs_of (tree 0x3002 0x55001)) 0 []) empty_caches r.call).line

abbrev pub musts : List Row → List Line
musts rows = map (λ (r : Row). r.must) rows

-- 'logical 02041ABC', of this direction and override, as the user's data or program
abbrev pub accessing : Bool → Bool → Option ℕ → Call
accessing write instruction code =
    access
    (record {
      address = 0x02041ABC;
      write = write;
      supervisor = false;
      instruction = instruction;
      own = false;
      code = code;
      recorded = true;
    })

abbrev pub reading : Call
reading = accessing false false None

abbrev pub writing : Call
writing = accessing true false None

-- ---- request 02
-- the registers of document 01's examples, with this TT0 and TT1
abbrev pub with_tt : ℕ → ℕ → Registers
with_tt tt0 tt1 =
    record {
      family = 30;
      present = true;
      enabled = true;
      tc = 0x80C07760;
      crp = record { limit = 0x80000002; address = 0x1000 };
      srp = record { limit = 0; address = 0 };
      tt0 = tt0;
      tt1 = tt1;
      itt0 = 0;
      itt1 = 0;
      dtt0 = 0;
      dtt1 = 0;
    }

abbrev pub by_tt : ℕ → ℕ → Call → Line → Row
by_tt tt0 tt1 call must = record { registers = with_tt tt0 tt1; call = call; must = must }

-- transparent, and as the tables have it
abbrev pub itself : Line
itself = A 0x02041ABC 0

abbrev pub mapped : Line
mapped = A 0x00055ABC 3

abbrev pub rows02 : List Row
rows02 =
    -- base 0, mask 7, RWM set: every code, both directions
    by_tt 0x02008507 0 reading itself
    ∷ by_tt 0x02008507 0 writing itself
    -- R/W set, RWM clear: reads alone; both clear: writes alone
    ∷ by_tt 0x02008207 0 reading itself
    ∷ by_tt 0x02008207 0 writing mapped
    ∷ by_tt 0x02008007 0 reading mapped
    ∷ by_tt 0x02008007 0 writing itself
    -- base 1, mask 0: code 1 in both directions, and no other
    ∷ by_tt 0x02008110 0 reading itself
    ∷ by_tt 0x02008110 0 writing itself
    ∷ by_tt 0x02008110 0 (accessing false true None) mapped
    ∷ by_tt 0x02008110 0 (accessing false false (Some 0)) mapped
    -- base 0 as the manual has it is code 1 by document 01's 10:8
    ∷ by_tt 0x02008100 0 reading mapped
    ∷ by_tt 0x02008100 0 (accessing false false (Some 0)) itself
    -- TT0 for reads and TT1 for writes; bits 14:10, 7 and 3 mean nothing; another address
    ∷ by_tt 0x02008207 0x02008007 reading itself
    ∷ by_tt 0x02008207 0x02008007 writing itself
    ∷ by_tt 0x0200FD9F 0 reading itself
    ∷ by_tt 0x03008507 0 reading mapped
    -- 'PTEST level 0, PLOAD and the probe follow'
    ∷ by_tt 0x02008207 0 (testing 1 false 0 0x02041ABC) (T 0x0040 0 0)
    ∷ by_tt 0x02008207 0 (testing 1 true 0 0x02041ABC) (T 0 0 0)
    ∷ by_tt 0x02008007 0 (testing 1 false 0 0x02041ABC) (T 0 0 0)
    ∷ by_tt 0x02008007 0 (testing 1 true 0 0x02041ABC) (T 0x0040 0 0)
    ∷ by_tt 0x02008207 0 (loading 1 false 0x02041ABC) (L 0)
    ∷ by_tt 0x02008207 0 (loading 1 true 0x02041ABC) (L 3)
    ∷ by_tt 0x02008007 0 (loading 1 false 0x02041ABC) (L 3)
    ∷ by_tt 0x02008007 0 (loading 1 true 0x02041ABC) (L 0)
    ∷ by_tt 0x02008207 0 (probing false false false 0x02041ABC) itself
    ∷ by_tt 0x02008207 0 (probing false false true 0x02041ABC) N
    ∷ by_tt 0x02008007 0 (probing false false false 0x02041ABC) N
    ∷ by_tt 0x02008007 0 (probing false false true 0x02041ABC) itself
    ∷ []

pub request_02 : map gives rows02 ≡ musts rows02
unfolding calling translate in_order translate030 search030 transparent walk_from read_of widths_of any_of all_of count_of first_of refusal_of load load_in_order test test_in_order probe probe_in_order matching rested touched hit_of after_hit shifted oldest victim inserted flushed_page touches_of
request_02 = refl
