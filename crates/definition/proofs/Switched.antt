-- The premises of request 14 can be met by traces that switch from one task to another and differ in all else; and without its flush a change is answered by
-- what stood there before. By computation. Assumes nothing.
use Prim.Native.Nat.{ℕ}
use mathlib.Core.Path.{◌≡◌, refl}
use mathlib.Core.List.{List, [], ◌∷◌, map}
use mathlib.Core.Bool.{false}
use mathlib.Core.Logic.{inl, inr}
use Rattle.definition.specs.Words.{any_of, all_of, first_of}
use Rattle.definition.specs.Memory.{fetch_of, touches_of}
use Rattle.definition.specs.Transparent.{transparent}
use Rattle.definition.specs.Walk030.{read_of, widths_of, walk_from}
use Rattle.definition.specs.Walk040.{walk040}
use Rattle.definition.specs.Cache030.{matching, rested, touched, hit_of, after_hit, shifted, oldest, victim, inserted, flushed_all, flushed_page}
use Rattle.definition.specs.Cache040.{hit040, inserted040, flushed_all040}
use Rattle.definition.specs.Refusal.{refusal_of}
use Rattle.definition.specs.Translate.{empty_caches, search030, translate030, translate040, in_order, translate}
use Rattle.definition.specs.Load.{load_in_order, load}
use Rattle.definition.specs.Test.{test}
use Rattle.definition.specs.Flush.{flush_all}
use Rattle.definition.specs.Calls.{access, loading, testing, flushing_all, A, L, K, R, calling}
use Rattle.definition.specs.Trace.{Loads, Calls, Stores, step_of, first_state, lines_from}
use Rattle.definition.proofs.Marked.{Marked, watching, plainly, record_in, turns_from, prints}
use Rattle.definition.proofs.Lists.{All, all_at, Paired}
use Rattle.definition.proofs.Turns.{vacant, walk_of, Watch, watches_from, watches_of, Same, Allowed, FlushFirst, ChangesFlushed}
use Rattle.definition.proofs.Records.{traces_change}
use Rattle.definition.proofs.Witness.{registers, registers040, reading}

-- a 68030's task reads, and then the tables of a 68040's task are stored over its own and its registers are loaded
abbrev briefly : List Marked
briefly =
    plainly (Loads registers)
    ∷ plainly (Stores 4 0x55001)
    ∷ watching (reading 0x11ABC)
    ∷ plainly (Stores 0 2)
    ∷ plainly (Stores 4 2)
    ∷ plainly (Stores 8 0x66001)
    ∷ plainly (Loads registers040)
    ∷ plainly (Calls flushing_all)
    ∷ watching (reading 0x42ABC)
    ∷ []

-- the same in another order, with a PLOAD of the first page, a PTEST between the change and its flush, and a read of the second page
abbrev busily : List Marked
busily =
    plainly (Stores 4 0x55001)
    ∷ plainly (Loads registers)
    ∷ plainly (Calls (loading 1 false 0x1F000))
    ∷ watching (reading 0x11ABC)
    ∷ plainly (Loads registers040)
    ∷ plainly (Stores 8 0x66001)
    ∷ plainly (Stores 4 2)
    ∷ plainly (Stores 0 2)
    ∷ plainly (Calls (testing 1 false 7 0x11ABC))
    ∷ plainly (Calls flushing_all)
    ∷ plainly (Calls (access (reading 0x42000)))
    ∷ watching (reading 0x42ABC)
    ∷ []

-- (X), as what computes on given lists
abbrev Alike : Watch → Watch → Type 0
Alike w w' =
    (w.made.access ≡ w'.made.access)
    × ((w.made.registers ≡ w'.made.registers)
    × All (λ (at : ℕ). fetch_of w.made.memory at ≡ fetch_of w'.made.memory at) (walk_of w.made).asked)

same_by : (l l' : List Watch) → Paired Alike l l' → Paired Same l l'
same_by [] [] h = tt
same_by [] (w' ∷ l') h = h
same_by (w ∷ l) [] h = h
same_by (w ∷ l) (w' ∷ l') h = (
  record {
    access = h.0.0;
    registers = h.0.1.0;
    reads = λ at i.
        all_at (λ (at : ℕ). fetch_of w.made.memory at ≡ fetch_of w'.made.memory at) (walk_of w.made).asked at i h.0.1.1;
  },
  same_by l l' h.1,
)

brief_flushed : ChangesFlushed empty_caches (turns_from first_state briefly)
unfolding ChangesFlushed FlushFirst turns_from step_of refusal_of calling flush_all flushed_all flushed_all040 vacant all_of translate in_order transparent translate030 search030 hit_of matching first_of walk_from read_of widths_of any_of after_hit inserted victim shifted rested oldest touched
brief_flushed = (inr (inl refl), (inl (record { registers = refl; reads = λ w i at k. refl }), tt))

busy_flushed : ChangesFlushed empty_caches (turns_from first_state busily)
unfolding ChangesFlushed FlushFirst turns_from step_of refusal_of calling load load_in_order flushed_page flush_all flushed_all flushed_all040 vacant all_of translate in_order transparent translate030 search030 hit_of matching first_of walk_from read_of widths_of any_of after_hit inserted victim shifted rested touched oldest translate040 hit040 inserted040 walk040
busy_flushed = (
  inl (record { registers = refl; reads = λ w i at k. refl }),
  (
    inr (inr (refl, inl refl)),
    (
      inl (record { registers = refl; reads = λ w i at k. refl }),
      (inl (record { registers = refl; reads = λ w i at k. refl }), (inl (record { registers = refl; reads = λ w i at k. refl }), tt)),
    ),
  ),
)

switched_same : Paired Same (watches_of (turns_from first_state briefly)) (watches_of (turns_from first_state busily))
unfolding watches_from turns_from step_of refusal_of calling translate in_order transparent translate030 search030 hit_of matching first_of walk_from read_of widths_of any_of after_hit translate040 hit040 walk040 touches_of
switched_same =
    same_by (watches_of (turns_from first_state briefly)) (watches_of (turns_from first_state busily))
    ((refl, (refl, (refl, tt))), ((refl, (refl, (refl, (refl, (refl, tt))))), tt))

brief_allowed : All Allowed (watches_of (turns_from first_state briefly))
unfolding watches_from turns_from step_of refusal_of any_of
brief_allowed = (refl, (refl, tt))

busy_allowed : All Allowed (watches_of (turns_from first_state busily))
unfolding watches_from turns_from step_of refusal_of any_of
busy_allowed = (refl, (refl, tt))

-- so both print the two accesses alike
pub switched_alike : prints first_state briefly ≡ prints first_state busily
switched_alike = (traces_change briefly busily brief_flushed busy_flushed switched_same brief_allowed busy_allowed).0

-- each by a walk in the first, and by a hit in the second
pub printed_briefly : lines_from first_state (map record_in briefly) ≡ K ∷ K ∷ A 0x56ABC 1 ∷ K ∷ K ∷ K ∷ K ∷ K ∷ A 0x66ABC 3 ∷ []
unfolding lines_from step_of refusal_of calling flush_all flushed_all flushed_all040 translate in_order transparent translate030 search030 hit_of matching first_of walk_from read_of widths_of any_of touches_of after_hit inserted victim shifted rested touched oldest translate040 hit040 inserted040 walk040
printed_briefly = refl

pub printed_busily : lines_from first_state (map record_in busily) ≡ K ∷ K ∷ L 1 ∷ A 0x56ABC 0 ∷ K ∷ K ∷ K ∷ K ∷ R 6 ∷ K ∷ A 0x66000 3 ∷ A 0x66ABC 0 ∷ []
unfolding lines_from step_of refusal_of calling load load_in_order flushed_page test flush_all flushed_all flushed_all040 translate in_order transparent translate030 search030 hit_of matching first_of walk_from read_of widths_of any_of touches_of after_hit inserted victim shifted rested touched oldest translate040 hit040 inserted040 walk040
printed_busily = refl

-- ---- without its flush
-- a long changes: the second read is answered by what stood there before, the third, behind a flush, by what stands there
abbrev unflushed : List Marked
unflushed =
    plainly (Loads registers)
    ∷ plainly (Stores 4 0x55001)
    ∷ watching (reading 0x11ABC)
    ∷ plainly (Stores 4 0x77001)
    ∷ watching (reading 0x11ABC)
    ∷ plainly (Calls flushing_all)
    ∷ watching (reading 0x11ABC)
    ∷ []

pub printed_unflushed : lines_from first_state (map record_in unflushed) ≡ K ∷ K ∷ A 0x56ABC 1 ∷ K ∷ A 0x56ABC 0 ∷ K ∷ A 0x78ABC 1 ∷ []
unfolding lines_from step_of refusal_of calling flush_all flushed_all flushed_all040 translate in_order transparent translate030 search030 hit_of matching first_of walk_from read_of widths_of any_of touches_of after_hit inserted victim shifted rested oldest touched
printed_unflushed = refl
