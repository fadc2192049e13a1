-- Demand 3 and request 14 of the calls by value and over a lent pair: whatever was called before, a watched access gets the cacheless walk's answer.
-- Assumes nothing but what the statements say; a link of a chain is the contract of its call.
use Prim.Native.Nat.{ℕ}
use mathlib.Core.Bool.{Bool}
use mathlib.Core.Path.{◌≡◌, refl, ◌∙◌}
use mathlib.Core.List.{List, ◌∷◌, ◌++◌}
use Rattle.definition.specs.Memory.{Memory, fetch_of}
use Rattle.definition.specs.Translate.{empty_caches, translate, cacheless}
use Rattle.definition.specs.Load.{load}
use Rattle.definition.specs.Flush.{flush_all, flush_code, flush_page, flush_frame}
use Rattle.definition.specs.Calls as calls
use Rattle.definition.specs.Calls.{Call, calling}
use Rattle.definition.proofs.Replay.{Moment, watched, memory_at, watched_of, walks_of, In, Steady, Accepted}
use Rattle.definition.specs.declared.Registers.{Registers}
use Rattle.definition.specs.declared.Access.{Access}
use Rattle.definition.specs.declared.Translation.{Translation}
use Rattle.definition.specs.declared.Load.{Load}
use Rattle.definition.specs.declared.Flush.{Flush}
use Rattle.definition.proofs.Lists.{All, Paired}
use Rattle.definition.proofs.Turns.{Turn, under, watches_of, Same, Allowed, Kept, ChangesFlushed}
use Rattle.definition.proofs.Epochs.{walks_in}
use Rattle.cache.specs.Pair.{pair_of}
use Rattle.cache.specs.declared.CachePair.{CachePair}
use Rattle.chain.proofs.Runs.{Ran, ran_none, ran_watched, ran_passed, after_chain, chains_independent, chains_epochs, chains_change, itself, as_walks}
use Rattle.tableless.specs.ByValue.{flushed_with, FlushedBy}
use Rattle.mmu.specs.ByValue.{translated_with, TranslatedBy, loaded_with, LoadedBy}
use Rattle.mmu.specs.declared.by_value.Translated.{Translated}
use Rattle.door_chain.specs.ByValue.{PairPasses, translates, loads, tests, probes, flushes_all, flushes_code, flushes_page, flushes_frame, PairLinks, none, watch, pass, PairChain}

-- ---- one call
-- the next pair is the caches that the definition's call leaves
passed : (g : Registers) (m : Memory) {x y : CachePair} {call : Call} → PairPasses g m x call y → pair_of y ≡ (calling g m (pair_of x) call).caches
unfolding calling
passed g m (translates a r k) = k.leaves
passed g m (loads code write address r k) = k.leaves
passed g m (tests code write level address) = refl
passed g m (probes own instruction write address) = refl
passed g m (flushes_all r k) = k.leaves
passed g m (flushes_code code mask r k) = k.leaves
passed g m (flushes_page code mask address r k) = k.leaves
passed g m (flushes_frame frame r k) = k.leaves

-- ---- over a lent pair: each contract of crates/pair is a link, y being the pair at exit
pub watch_pair : {x y z : CachePair} {answer : Translation} {count : ℕ} {rest : List Turn} {answers : List Translation} (g : Registers) (a : Access) (m : Memory)
    → TranslatedBy (translate g a m (pair_of x)) (translated_with answer count y) → PairLinks y rest answers z
    → PairLinks x (under g (watched a m) ∷ rest) (answer ∷ answers) z
watch_pair {y = y} {answer = answer} {count = count} g a m k more = watch g a m (translated_with answer count y) k more

module _ (g : Registers) (m : Memory) {x y : CachePair} where
  pub translates_pair : {answer : Translation} {count : ℕ} (a : Access) → TranslatedBy (translate g a m (pair_of x)) (translated_with answer count y)
      → PairPasses g m x (calls.access a) y
  translates_pair {answer} {count} a k = translates a (translated_with answer count y) k

  pub loads_pair : {answer : Load} {count : ℕ} (code : ℕ) (write : Bool) (address : ℕ)
      → LoadedBy (load g code write address m (pair_of x)) (loaded_with answer count y) → PairPasses g m x (calls.loading code write address) y
  loads_pair {answer} {count} code write address k = loads code write address (loaded_with answer count y) k

  pub flushes_all_pair : {answer : Flush} → FlushedBy (flush_all (pair_of x)) (flushed_with answer y) → PairPasses g m x calls.flushing_all y
  flushes_all_pair {answer} k = flushes_all (flushed_with answer y) k

  pub flushes_code_pair : {answer : Flush} (code mask : ℕ) → FlushedBy (flush_code code mask (pair_of x)) (flushed_with answer y)
      → PairPasses g m x (calls.flushing_code code mask) y
  flushes_code_pair {answer} code mask k = flushes_code code mask (flushed_with answer y) k

  pub flushes_page_pair : {answer : Flush} (code mask address : ℕ) → FlushedBy (flush_page code mask address (pair_of x)) (flushed_with answer y)
      → PairPasses g m x (calls.flushing_page code mask address) y
  flushes_page_pair {answer} code mask address k = flushes_page code mask address (flushed_with answer y) k

  pub flushes_frame_pair : {answer : Flush} (frame : ℕ) → FlushedBy (flush_frame frame (pair_of x)) (flushed_with answer y)
      → PairPasses g m x (calls.flushing_frame frame) y
  flushes_frame_pair {answer} frame k = flushes_frame frame (flushed_with answer y) k

-- ---- calls one after the other
links_ran : {x y : CachePair} {l : List Turn} {answers : List Translation} → PairLinks x l answers y → Ran itself (pair_of x) l answers (pair_of y)
links_ran none = ran_none
links_ran (watch g a m r k more) = ran_watched g a m k.answers k.leaves (links_ran more)
links_ran (pass g call m k more) = ran_passed g call m (passed g m k) (links_ran more)

-- ---- under one set of registers, from the empty pair
-- after any calls whatever, a watched access is answered as the cacheless walk is
pub after_pair_calls : (g : Registers) {x y : CachePair} {before : List Moment} {answers : List Translation} (a : Access) (m : Memory) (r : Translated)
    → pair_of x ≡ empty_caches → PairChain g x before answers y → TranslatedBy (translate g a m (pair_of y)) r
    → ((now : Moment) (at : ℕ) → In now before → In at (cacheless g a m).asked → fetch_of (memory_at now) at ≡ fetch_of m at)
    → r.answer ≡ (cacheless g a m).answer
after_pair_calls g {before = before} a m r e chain k s = k.answers ∙ after_chain g before a m e (links_ran chain.links) s

-- demand 3
pub independence_of_pairs : (g : Registers) {x x' y y' : CachePair} (l l' : List Moment) {answers answers' : List Translation}
    → pair_of x ≡ empty_caches → pair_of x' ≡ empty_caches → PairChain g x l answers y → PairChain g x' l' answers' y'
    → watched_of l ≡ watched_of l' → Steady g (l ++ l') → Accepted g (l ++ l') → (answers ≡ answers') × (answers ≡ walks_of g l)
independence_of_pairs g l l' e e' chain chain' w s t =
    as_walks (chains_independent g l l' e e' (links_ran chain.links) (links_ran chain'.links) w s t)

-- ---- registers that change from call to call
-- request 14, over epochs
pub epochs_of_pairs : {x x' y y' : CachePair} (l l' : List Turn) {answers answers' : List Translation}
    → pair_of x ≡ empty_caches → pair_of x' ≡ empty_caches → PairLinks x l answers y → PairLinks x' l' answers' y'
    → Kept (watches_of l) → Kept (watches_of l') → Paired Same (watches_of l) (watches_of l') → (answers ≡ answers') × (answers ≡ walks_in (watches_of l))
epochs_of_pairs l l' e e' links links' k k' p = as_walks (chains_epochs l l' e e' (links_ran links) (links_ran links') k k' p)

-- and in its own words: a flush that empties both caches comes after each change and before the next access, PLOAD or probe
pub registers_change_of_pairs : {x x' y y' : CachePair} (l l' : List Turn) {answers answers' : List Translation}
    → pair_of x ≡ empty_caches → pair_of x' ≡ empty_caches → PairLinks x l answers y → PairLinks x' l' answers' y'
    → ChangesFlushed empty_caches l → ChangesFlushed empty_caches l' → Paired Same (watches_of l) (watches_of l')
    → All Allowed (watches_of l) → All Allowed (watches_of l') → (answers ≡ answers') × (answers ≡ walks_in (watches_of l))
registers_change_of_pairs l l' e e' links links' h h' p t t' =
    as_walks (chains_change l l' e e' (links_ran links) (links_ran links') h h' p t t')
