-- The premises of demand 3 can be met by replays that differ in all else, and hits are what it speaks of: a pair of replays, one of traces and one of files, by computation;
-- and so can those of a run from a clean snapshot.
-- Assumes nothing.
use Rattle.std.specs.Prelude.{None}
use Prim.Native.Nat.{ℕ}
use mathlib.Core.Path.{◌≡◌, refl}
use mathlib.Core.List.{List, [], ◌∷◌, ◌++◌, map}
use mathlib.Core.Bool.{true, false, false≢true}
use mathlib.Core.Logic.{inl, inr}
use native.Mathlib.Omega.{arith}
use lib.ListN.{set, replicate}
use Rattle.definition.specs.Words.{any_of, first_of}
use Rattle.definition.specs.Memory.{Memory, memory, fetch_of, touches_of}
use Rattle.definition.specs.Transparent.{transparent}
use Rattle.definition.specs.Walk030.{read_of, widths_of, walk_from}
use Rattle.definition.specs.Walk040.{walk040}
use Rattle.definition.specs.Cache030.{matching, rested, hit_of, after_hit, shifted, oldest, victim, inserted, flushed_page}
use Rattle.definition.specs.Cache040.{hit040, inserted040, flushed_frame}
use Rattle.definition.specs.Refusal.{refusal_of}
use Rattle.definition.specs.Translate.{empty_caches, search030, translate030, translate040, in_order, translate_checks, translate, cacheless}
use Rattle.definition.specs.Load.{load_in_order, load}
use Rattle.definition.specs.Flush.{flush_frame}
use Rattle.definition.specs.Calls.{access, loading, testing, flushing_frame, A, F, L, K, translation_line, calling}
use Rattle.definition.specs.Trace.{Loads, Calls, Stores, Adds, record_of, memory_of, step_of, first_state, front_of, records_after, records_of, lines_from}
use Rattle.definition.proofs.Replay.{Moment, watched, other, memory_at, after_all, answers_from, answers, watched_of, walks_of, In, Steady, Accepted, Since}
use Rattle.definition.proofs.Marked.{kept_after, warmed, Marked, watching, plainly, record_in, moments_of, Under, watched_lines, prints}
use Rattle.definition.specs.declared.Registers.{Registers}
use Rattle.definition.specs.declared.Access.{Access}
use Rattle.definition.specs.declared.Translation.TheVariants.{Address}
use Rattle.definition.proofs.Lists.{All, all_at}
use Rattle.definition.proofs.Independence.{independence}
use Rattle.definition.proofs.Records.{traces_independent, warmed_is_cacheless}
use Rattle.definition.proofs.Files.{lines_of, files_independent}
use Rattle.definition.proofs.AuditKinds.{mapped, guard_audited}
use Rattle.definition.proofs.AuditKinds as kinds

-- ---- the premises, as what computes on given lists
-- the watched accesses, each with its memory
abbrev Pair : Type 0
Pair = Access × Memory

unfoldable pairs_of : List Moment → List Pair
pairs_of [] = []
pairs_of (watched a m ∷ rest) = (a, m) ∷ pairs_of rest
pairs_of (other call m ∷ rest) = pairs_of rest

in_pairs : (l : List Moment) (a : Access) (m : Memory) → In (watched a m) l → In (a, m) (pairs_of l)
unfolding pairs_of
in_pairs [] a m x' = elim x' [ ]
in_pairs (watched b n ∷ rest) a m (inl e) = let p : ◌≡◌ {A = Pair} (a, m) (b, n) = cc in inl p
in_pairs (watched b n ∷ rest) a m (inr i) = inr (in_pairs rest a m i)
in_pairs (other call n ∷ rest) a m (inl e) = let z : ◌≡◌ {A = ℕ} 0 1 = cc in absurd (omega arith)
in_pairs (other call n ∷ rest) a m (inr i) = in_pairs rest a m i

-- each of these longs reads at a moment as in m
abbrev Alike : List ℕ → Memory → Moment → Type 0
Alike asked m now = All (λ (at : ℕ). fetch_of (memory_at now) at ≡ fetch_of m at) asked

-- the longs of a watched access's cacheless walk read so at each of the moments
abbrev Stays : Registers → List Moment → Pair → Type 0
Stays g l p = All (Alike (cacheless g p.0 p.1).asked p.1) l

steady_by : (g : Registers) (l : List Moment) → All (Stays g l) (pairs_of l) → Steady g l
steady_by g l h =
    record {
      same = λ a m now at i j k.
          all_at (λ (at : ℕ). fetch_of (memory_at now) at ≡ fetch_of m at) (cacheless g a m).asked at k
          (all_at (Alike (cacheless g a m).asked m) l now j (all_at (Stays g l) (pairs_of l) (a, m) (in_pairs l a m i) h));
    }

-- they read in a snapshot as at the access's own moment
abbrev Reads : Registers → Memory → Pair → Type 0
Reads g m p = All (λ (at : ℕ). fetch_of m at ≡ fetch_of p.1 at) (cacheless g p.0 p.1).asked

since_by : (g : Registers) (m : Memory) (l : List Moment) → All (Reads g m) (pairs_of l) → Since g m l
since_by g m l h =
    record {
      same = λ a n at i k.
          all_at (λ (at : ℕ). fetch_of m at ≡ fetch_of n at) (cacheless g a n).asked at k (all_at (Reads g m) (pairs_of l) (a, n) (in_pairs l a n i) h);
    }

accepted_by : (g : Registers) (l : List Moment) → All (λ (p : Pair). refusal_of (translate_checks g p.0 p.1 empty_caches) ≡ 0) (pairs_of l)
    → Accepted g l
accepted_by g l h =
    record {
      none = λ a m i. all_at (λ (p : Pair). refusal_of (translate_checks g p.0 p.1 empty_caches) ≡ 0) (pairs_of l) (a, m) (in_pairs l a m i) h;
    }

-- ---- two replays
-- IS 15 and one level of one bit: pages of 64 KB, by a table of two short descriptors at 0
abbrev pub registers : Registers
registers =
    record {
      family = 30;
      present = true;
      enabled = true;
      tc = 0xF1000;
      crp = record { limit = 2; address = 0 };
      srp = record { limit = 0; address = 0 };
      tt0 = 0;
      tt1 = 0;
      itt0 = 0;
      itt1 = 0;
      dtt0 = 0;
      dtt1 = 0;
    }

-- a read of user data
abbrev pub reading : ℕ → Access
reading address =
    record { address = address; write = false; supervisor = false; instruction = false; own = false; code = None; recorded = true }

-- four memories that agree on the long at 4 alone: the third has no long at 0, and the fourth is refused
abbrev one : Memory
one = memory (0 ∷ 0x55001 ∷ []) 0 []

abbrev two : Memory
two = memory (7 ∷ 0x55001 ∷ 9 ∷ []) 0 []

abbrev three : Memory
three = memory (0x55001 ∷ []) 4 (record { first = 0x100; last = 0x1FF } ∷ [])

abbrev four : Memory
four = memory (0 ∷ 0x55001 ∷ []) 0 (record { first = 9; last = 8 } ∷ [])

abbrev plain : List Moment
plain = watched (reading 0x11ABC) one ∷ []

-- a PLOAD of the page, an access with a bus error, a refused PTEST, a flush, and then the same access
abbrev before : List Moment
before =
    other (loading 1 false 0x1F000) two ∷ other (access (reading 0x2000)) three ∷ other (testing 1 false 7 0x11ABC) four ∷ other (flushing_frame 5) four ∷ []

abbrev busy : List Moment
busy = before ++ (watched (reading 0x11ABC) three ∷ [])

pub same_watched : watched_of plain ≡ watched_of busy
unfolding watched_of
same_watched = refl

each : All (Alike (4 ∷ []) one) (plain ++ busy)
unfolding any_of touches_of
each = ((refl, tt), ((refl, tt), ((refl, tt), ((refl, tt), ((refl, tt), ((refl, tt), tt))))))

pub both_steady : Steady registers (plain ++ busy)
unfolding pairs_of translate in_order transparent translate030 search030 hit_of after_hit matching first_of walk_from read_of widths_of refusal_of any_of touches_of
both_steady = steady_by registers (plain ++ busy) (each, (each, tt))

pub both_accepted : Accepted registers (plain ++ busy)
unfolding pairs_of refusal_of any_of
both_accepted = accepted_by registers (plain ++ busy) (search)

-- so both answer it alike
pub answered_alike : answers registers plain ≡ answers registers busy
answered_alike = (independence registers plain busy same_watched both_steady both_accepted).0

-- the first by a walk that asks for the long at 4, the second by a hit, which asks for none
pub asked_alone : (cacheless registers (reading 0x11ABC) one).asked ≡ 4 ∷ []
unfolding translate in_order transparent translate030 search030 hit_of matching first_of walk_from read_of widths_of refusal_of any_of after_hit
asked_alone = refl

pub asked_after : (translate registers (reading 0x11ABC) three (after_all registers empty_caches before)).asked ≡ []
unfolding after_all calling load load_in_order flush_frame flushed_frame flushed_page translate in_order transparent translate030 search030 hit_of matching first_of walk_from read_of widths_of refusal_of any_of touches_of after_hit inserted victim shifted rested oldest
asked_after = refl

pub answered : answers registers busy ≡ Address 0x56ABC ∷ []
unfolding answers_from after_all calling load load_in_order flush_frame flushed_frame flushed_page translate in_order transparent translate030 search030 hit_of matching first_of walk_from read_of widths_of refusal_of any_of touches_of after_hit inserted victim shifted rested oldest
answered = refl

-- ---- the same of two traces, from the program's first state
abbrev alone : List Marked
alone = plainly (Loads registers) ∷ plainly (Stores 4 0x55001) ∷ watching (reading 0x11ABC) ∷ []

-- registers and long in the other order, a PLOAD of the page, another long, a bus-error range, and then the same access
abbrev among : List Marked
among =
    plainly (Stores 4 0x55001)
    ∷ plainly (Loads registers)
    ∷ plainly (Calls (loading 1 false 0x1F000))
    ∷ plainly (Stores 0 7)
    ∷ plainly (Adds (record { first = 0x100; last = 0x1FF }))
    ∷ watching (reading 0x11ABC)
    ∷ []

no_call : {X : Type 0} → false ≡ true → X
no_call e = absurd (false≢true e)

under_alone : Under registers first_state alone
unfolding Under step_of refusal_of
under_alone = (no_call, (no_call, ((λ e. refl), tt)))

under_among : Under registers first_state among
unfolding Under step_of refusal_of calling load
under_among = (no_call, (no_call, ((λ e. refl), (no_call, (no_call, ((λ e. refl), tt))))))

abbrev both : List Moment
both = moments_of first_state alone ++ moments_of first_state among

-- the long that the access asks for reads as it does now at each of the three calls
still : All (Alike (4 ∷ []) (memory (set (replicate 8192 0) 1 0x55001) 0 [])) both
unfolding moments_of step_of refusal_of any_of touches_of
still = ((refl, tt), ((refl, tt), ((refl, tt), tt)))

traces_steady : Steady registers both
unfolding moments_of step_of pairs_of translate in_order transparent translate030 search030 hit_of after_hit matching first_of walk_from read_of widths_of refusal_of any_of touches_of
traces_steady = steady_by registers both (still, (still, tt))

traces_accepted : Accepted registers both
unfolding moments_of step_of pairs_of refusal_of any_of
traces_accepted = accepted_by registers both (refl, (refl, tt))

pub traces_alike : prints first_state alone ≡ prints first_state among
unfolding moments_of watched_of
traces_alike = (traces_independent registers alone among under_alone under_among refl traces_steady traces_accepted).0

-- the two print the access alike but for the count
pub printed_alone : lines_from first_state (map record_in alone) ≡ K ∷ K ∷ A 0x56ABC 1 ∷ []
unfolding lines_from step_of calling translate in_order transparent translate030 search030 hit_of matching first_of walk_from read_of widths_of refusal_of any_of after_hit
printed_alone = refl

pub printed_among : lines_from first_state (map record_in among) ≡ K ∷ K ∷ L 1 ∷ K ∷ K ∷ A 0x56ABC 0 ∷ []
unfolding lines_from step_of calling load load_in_order flushed_page translate in_order transparent translate030 search030 hit_of matching first_of walk_from read_of widths_of refusal_of any_of touches_of after_hit inserted victim shifted rested oldest
printed_among = refl

-- ---- the same of two files, of a 68040 with two watched accesses, the second of which faults
abbrev pub registers040 : Registers
registers040 =
    record {
      family = 40;
      present = true;
      enabled = true;
      tc = 0x8000;
      crp = record { limit = 0; address = 0 };
      srp = record { limit = 0; address = 0 };
      tt0 = 0;
      tt1 = 0;
      itt0 = 0;
      itt1 = 0;
      dtt0 = 0;
      dtt1 = 0;
    }

-- the three tables lie over each other at 0: the root's entry, the pointer's, a page's; the next page has none
abbrev brief : List Marked
brief =
    plainly (Loads registers040)
    ∷ plainly (Stores 0 2)
    ∷ plainly (Stores 4 2)
    ∷ plainly (Stores 8 0x55001)
    ∷ watching (reading 0x42ABC)
    ∷ watching (reading 0x43000)
    ∷ []

-- the page is read before, another long is stored, a frame is flushed and a bus-error range added
abbrev long : List Marked
long =
    plainly (Stores 0 2)
    ∷ plainly (Stores 4 2)
    ∷ plainly (Stores 8 0x55001)
    ∷ plainly (Loads registers040)
    ∷ plainly (Calls (access (reading 0x42000)))
    ∷ plainly (Stores 16 7)
    ∷ watching (reading 0x42ABC)
    ∷ plainly (Calls (flushing_frame 0x42))
    ∷ plainly (Adds (record { first = 0x100; last = 0x1FF }))
    ∷ watching (reading 0x43000)
    ∷ []

-- as bytes: registers and the three longs
abbrev loaded_bytes : List ℕ
loaded_bytes = 0 ∷ 47 ∷ 1 ∷ 40 ∷ 3 ∷ 0 ∷ 0 ∷ 128 ∷ 0 ∷ replicate 40 0

abbrev stored_bytes : List ℕ
stored_bytes =
    0 ∷ 9 ∷ 9 ∷ 0 ∷ 0 ∷ 0 ∷ 0 ∷ 0 ∷ 0 ∷ 0 ∷ 2
    ∷ 0 ∷ 9 ∷ 9 ∷ 0 ∷ 0 ∷ 0 ∷ 4 ∷ 0 ∷ 0 ∷ 0 ∷ 2
    ∷ 0 ∷ 9 ∷ 9 ∷ 0 ∷ 0 ∷ 0 ∷ 8 ∷ 0 ∷ 5 ∷ 80 ∷ 1
    ∷ []

abbrev brief_bytes : List ℕ
brief_bytes = loaded_bytes ++ (stored_bytes ++ (0 ∷ 7 ∷ 2 ∷ 16 ∷ 255 ∷ 0 ∷ 4 ∷ 42 ∷ 188 ∷ 0 ∷ 7 ∷ 2 ∷ 16 ∷ 255 ∷ 0 ∷ 4 ∷ 48 ∷ 0 ∷ []))

abbrev long_bytes : List ℕ
long_bytes =
    stored_bytes
    ++ (loaded_bytes
    ++ (0 ∷ 7 ∷ 2 ∷ 16 ∷ 255 ∷ 0 ∷ 4 ∷ 32 ∷ 0
    ∷ 0 ∷ 9 ∷ 9 ∷ 0 ∷ 0 ∷ 0 ∷ 16 ∷ 0 ∷ 0 ∷ 0 ∷ 7
    ∷ 0 ∷ 7 ∷ 2 ∷ 16 ∷ 255 ∷ 0 ∷ 4 ∷ 42 ∷ 188
    ∷ 0 ∷ 5 ∷ 8 ∷ 0 ∷ 0 ∷ 0 ∷ 66
    ∷ 0 ∷ 9 ∷ 10 ∷ 0 ∷ 0 ∷ 1 ∷ 0 ∷ 0 ∷ 0 ∷ 1 ∷ 255
    ∷ 0 ∷ 7 ∷ 2 ∷ 16 ∷ 255 ∷ 0 ∷ 4 ∷ 48 ∷ 0
    ∷ []))

brief_records : map record_in brief ≡ records_of brief_bytes
unfolding records_after front_of record_of
brief_records = refl

long_records : map record_in long ≡ records_of long_bytes
unfolding records_after front_of record_of
long_records = refl

under_brief : Under registers040 first_state brief
unfolding Under step_of refusal_of calling
under_brief = (no_call, (no_call, (no_call, (no_call, ((λ e. refl), ((λ e. refl), tt))))))

under_long : Under registers040 first_state long
unfolding Under step_of refusal_of calling
under_long = (no_call, (no_call, (no_call, (no_call, ((λ e. refl), (no_call, ((λ e. refl), ((λ e. refl), (no_call, ((λ e. refl), tt))))))))))

abbrev calls : List Moment
calls = moments_of first_state brief ++ moments_of first_state long

-- the memory with the three longs, from which the six calls' memories differ in nothing that the two walks ask for
abbrev three_longs : Memory
three_longs = memory (set (set (set (replicate 8192 0) 0 2) 1 2) 2 0x55001) 0 []

first_still : All (Alike (0 ∷ 4 ∷ 8 ∷ []) three_longs) calls
unfolding moments_of step_of refusal_of calling any_of touches_of
first_still = ((refl, (refl, (refl, tt))), ((refl, (refl, (refl, tt))), ((refl, (refl, (refl, tt))), ((refl, (refl, (refl, tt))), ((refl, (refl, (refl, tt))), ((refl, (refl, (refl, tt))), tt))))))

second_still : All (Alike (0 ∷ 4 ∷ 12 ∷ []) three_longs) calls
unfolding moments_of step_of refusal_of calling any_of touches_of
second_still = ((refl, (refl, (refl, tt))), ((refl, (refl, (refl, tt))), ((refl, (refl, (refl, tt))), ((refl, (refl, (refl, tt))), ((refl, (refl, (refl, tt))), ((refl, (refl, (refl, tt))), tt))))))

files_steady : Steady registers040 calls
unfolding moments_of step_of calling pairs_of translate in_order transparent translate040 hit040 walk040 refusal_of any_of touches_of
files_steady = steady_by registers040 calls (first_still, (second_still, (first_still, (second_still, tt))))

files_accepted : Accepted registers040 calls
unfolding moments_of step_of calling pairs_of refusal_of any_of
files_accepted = accepted_by registers040 calls (refl, (refl, (refl, (refl, tt))))

pub files_alike : watched_lines brief (lines_of brief_bytes) ≡ watched_lines long (lines_of long_bytes)
unfolding moments_of watched_of
files_alike =
    (files_independent registers040 brief_bytes long_bytes brief long brief_records long_records under_brief under_long refl files_steady files_accepted).0

-- an address and a fault; the second file's first by a hit
pub printed_brief : lines_of brief_bytes ≡ K ∷ K ∷ K ∷ K ∷ A 0x55ABC 3 ∷ F 2 3 0x43000 3 ∷ []
unfolding records_after front_of record_of lines_from step_of calling translate in_order transparent translate040 hit040 inserted040 walk040 refusal_of any_of touches_of
printed_brief = refl

pub printed_long : lines_of long_bytes ≡ K ∷ K ∷ K ∷ K ∷ A 0x55000 3 ∷ K ∷ A 0x55ABC 0 ∷ K ∷ K ∷ F 2 3 0x43000 3 ∷ []
unfolding records_after front_of record_of lines_from step_of calling flush_frame flushed_frame translate in_order transparent translate040 hit040 inserted040 walk040 refusal_of any_of touches_of
printed_long = refl

-- ---- from a clean snapshot: README's sample up to its guard warms the caches
-- another long is stored, and then the page is read again
abbrev again : List Marked
again = plainly (Stores 0x1000 7) ∷ watching (reading 0x02041ABC) ∷ []

abbrev later : List Moment
later = moments_of (warmed mapped) again

under_again : Under kinds.plain (warmed mapped) again
unfolding Under kept_after step_of refusal_of calling
under_again = (no_call, ((λ e. refl), tt))

-- the three longs of its walk read as in the snapshot
again_since : Since kinds.plain (memory_of (warmed mapped)) later
unfolding moments_of kept_after step_of calling pairs_of translate in_order transparent translate030 search030 hit_of after_hit matching first_of walk_from read_of widths_of refusal_of any_of touches_of
again_since = since_by kinds.plain (memory_of (warmed mapped)) later ((refl, (refl, (refl, tt))), tt)

again_steady : Steady kinds.plain later
unfolding moments_of kept_after step_of calling pairs_of translate in_order transparent translate030 search030 hit_of after_hit matching first_of walk_from read_of widths_of refusal_of any_of touches_of
again_steady = steady_by kinds.plain later (((refl, (refl, (refl, tt))), tt), tt)

-- so it prints what its cacheless walk gives
pub again_cacheless : prints (warmed mapped) again ≡ map (translation_line 0) (walks_of kinds.plain later)
unfolding kept_after step_of refusal_of
again_cacheless = warmed_is_cacheless kinds.plain mapped again guard_audited.0 under_again again_since again_steady

-- by a hit
pub printed_again : lines_from (warmed mapped) (map record_in again) ≡ K ∷ A 0x55ABC 0 ∷ []
unfolding lines_from kept_after step_of calling translate in_order transparent translate030 search030 hit_of after_hit matching inserted victim shifted rested oldest first_of walk_from read_of widths_of refusal_of any_of touches_of
printed_again = refl
