-- Demand 3 and request 14 of the calls in place: whatever was called before on the arrays that a caller keeps, from empty caches or from caches that are audited clean, a
-- watched access gets the cacheless walk's answer. Assumes nothing but what the statements say; what a link of a chain says is the contract of its call.
use Prim.Native.Nat.{ℕ}
use mathlib.Core.Path.{◌≡◌, refl, sym, ◌∙◌}
use mathlib.Core.List.{List, ◌++◌}
use lib.ListN.{length}
use Rattle.definition.specs.Memory.{Memory, fetch_of}
use Rattle.definition.specs.Translate.{empty_caches, cacheless}
use Rattle.definition.specs.Load.{load}
use Rattle.definition.specs.Audit.{audit}
use Rattle.definition.specs.Calls.{Call, calling}
use Rattle.definition.proofs.Replay.{Moment, memory_at, watched_of, walks_of, In, Steady, Accepted, CleanSnapshot, Since}
use Rattle.definition.specs.declared.Registers.{Registers}
use Rattle.definition.specs.declared.Access.{Access}
use Rattle.definition.specs.declared.Audit.{Audit}
use Rattle.definition.specs.declared.Translation.{Translation}
use Rattle.definition.proofs.Lists.{All, Paired}
use Rattle.definition.proofs.Turns.{Turn, watches_of, Same, Allowed, Kept, ChangesFlushed}
use Rattle.definition.proofs.Epochs.{walks_in}
use Rattle.cache.specs.Atc030.{cache_of}
use Rattle.cache.proofs.Laws030.{entries_22}
use Rattle.chain.specs.Chain.{Arrays, caches_in, Translates, Passes, translates, loads, tests, probes, flushes_all, flushes_code, flushes_page, flushes_frame, Links, none, watch, pass, Chain}
use Rattle.chain.proofs.Runs.{Ran, ran_none, ran_watched, ran_passed, after_chain, chains_independent, chains_epochs, chains_change, after_chain_from_clean, clean_chain, clean_chains, itself, as_walked, as_walks}
use Rattle.checks.proofs.Pairs.{beside}
use Rattle.load.proofs.Loading.{load_beside}

-- ---- one call
-- the arrays at exit are the caches that the definition's call leaves
passed : (g : Registers) (m : Memory) {x y : Arrays} {call : Call} → Passes g m x call y → caches_in y ≡ (calling g m (caches_in x) call).caches
unfolding calling
passed g m (translates a k) = k.leaves
passed g m {x} (loads code write address k) =
    beside (load g code write address m (caches_in x)).caches k.leaves (sym (load_beside g code write address m (caches_in x)))
passed g m (tests code write level address) = refl
passed g m (probes own instruction write address) = refl
passed g m (flushes_all k) = k.leaves
passed g m (flushes_code code mask k) = k.leaves
passed g m (flushes_page code mask address k) = k.leaves
passed g m (flushes_frame frame k) = k.leaves

-- ---- calls one after the other
links_ran : {x y : Arrays} {l : List Turn} {answers : List Translation} → Links x l answers y → Ran itself (caches_in x) l answers (caches_in y)
links_ran none = ran_none
links_ran (watch g a m k more) = ran_watched g a m k.answers k.leaves (links_ran more)
links_ran (pass g call m k more) = ran_passed g call m (passed g m k) (links_ran more)

-- ---- from the empty caches
-- after any calls in place whatever, `translate` answers a watched access as the cacheless walk does
pub after_calls : (g : Registers) {x y z : Arrays} {before : List Moment} {answers : List Translation} {answer : Translation} {count : ℕ} (a : Access) (m : Memory)
    → caches_in x ≡ empty_caches → Chain g x before answers y → Translates g a m y answer count z
    → ((now : Moment) (at : ℕ) → In now before → In at (cacheless g a m).asked → fetch_of (memory_at now) at ≡ fetch_of m at)
    → answer ≡ (cacheless g a m).answer
after_calls g {before = before} a m e chain k s = k.answers ∙ after_chain g before a m e (links_ran chain.links) s

-- the demand, of two chains of calls in place from empty caches
pub independence_in_place : (g : Registers) {x x' y y' : Arrays} (l l' : List Moment) {answers answers' : List Translation}
    → caches_in x ≡ empty_caches → caches_in x' ≡ empty_caches → Chain g x l answers y → Chain g x' l' answers' y'
    → watched_of l ≡ watched_of l' → Steady g (l ++ l') → Accepted g (l ++ l') → (answers ≡ answers') × (answers ≡ walks_of g l)
independence_in_place g l l' e e' chain chain' w s t =
    as_walks (chains_independent g l l' e e' (links_ran chain.links) (links_ran chain'.links) w s t)

-- ---- registers that change from link to link
-- request 14, of two chains of calls in place from empty caches
pub epochs_in_place : {x x' y y' : Arrays} (l l' : List Turn) {answers answers' : List Translation}
    → caches_in x ≡ empty_caches → caches_in x' ≡ empty_caches → Links x l answers y → Links x' l' answers' y'
    → Kept (watches_of l) → Kept (watches_of l') → Paired Same (watches_of l) (watches_of l') → (answers ≡ answers') × (answers ≡ walks_in (watches_of l))
epochs_in_place l l' e e' links links' k k' p = as_walks (chains_epochs l l' e e' (links_ran links) (links_ran links') k k' p)

-- and in its own words: a flush that empties both caches comes after each change and before the next access, PLOAD or probe
pub registers_change_in_place : {x x' y y' : Arrays} (l l' : List Turn) {answers answers' : List Translation}
    → caches_in x ≡ empty_caches → caches_in x' ≡ empty_caches → Links x l answers y → Links x' l' answers' y'
    → ChangesFlushed empty_caches l → ChangesFlushed empty_caches l' → Paired Same (watches_of l) (watches_of l')
    → All Allowed (watches_of l) → All Allowed (watches_of l') → (answers ≡ answers') × (answers ≡ walks_in (watches_of l))
registers_change_in_place l l' e e' links links' h h' p t t' =
    as_walks (chains_change l l' e e' (links_ran links) (links_ran links') h h' p t t')

-- ---- from arrays that are audited clean, over the memory m as it stood then
-- the array of the 68030 cache has its 69 numbers, so the cache has its 22 entries
snapshot_in : (g : Registers) (m : Memory) (x : Arrays) → length x.c030 ≡ 69 → audit g m (caches_in x) ≡ Audit.Clean → CleanSnapshot g m (caches_in x)
unfolding cache_of
snapshot_in g m x size e = record { size = entries_22 x.c030 size; clean = e }

-- after any calls in place whatever, `translate` answers a watched access as the cacheless walk does
pub after_calls_from_clean : (g : Registers) {x y z : Arrays} {before : List Moment} {answers : List Translation} {answer : Translation} {count : ℕ}
    (m : Memory) (a : Access) (n : Memory) → length x.c030 ≡ 69 → audit g m (caches_in x) ≡ Audit.Clean → Chain g x before answers y → Translates g a n y answer count z
    → ((at : ℕ) → In at (cacheless g a n).asked → fetch_of m at ≡ fetch_of n at)
    → ((now : Moment) (at : ℕ) → In now before → In at (cacheless g a n).asked → fetch_of (memory_at now) at ≡ fetch_of n at)
    → answer ≡ (cacheless g a n).answer
after_calls_from_clean g {x = x} {before = before} m a n size e chain k first same =
    k.answers ∙ after_chain_from_clean g before m a n (snapshot_in g m x size e) (links_ran chain.links) first same

-- one chain of calls in place: each watched access is answered as its cacheless walk is
pub chain_from_clean : (g : Registers) {x y : Arrays} (m : Memory) (l : List Moment) {answers : List Translation} → length x.c030 ≡ 69
    → audit g m (caches_in x) ≡ Audit.Clean → Chain g x l answers y → Since g m l → Steady g l → answers ≡ walks_of g l
chain_from_clean g {x = x} m l size e chain since s =
    as_walked (clean_chain g m l (snapshot_in g m x size e) (links_ran chain.links) since s)

-- the demand, of two chains of calls in place
pub independence_from_clean : (g : Registers) {x x' y y' : Arrays} (m m' : Memory) (l l' : List Moment) {answers answers' : List Translation}
    → length x.c030 ≡ 69 → length x'.c030 ≡ 69 → audit g m (caches_in x) ≡ Audit.Clean → audit g m' (caches_in x') ≡ Audit.Clean
    → Chain g x l answers y → Chain g x' l' answers' y' → watched_of l ≡ watched_of l' → Since g m l → Since g m' l' → Steady g (l ++ l') → Accepted g (l ++ l')
    → (answers ≡ answers') × (answers ≡ walks_of g l)
independence_from_clean g {x = x} {x' = x'} m m' l l' size size' e e' chain chain' w since since' s t =
    as_walks
    (clean_chains g m m' l l' (snapshot_in g m x size e) (snapshot_in g m' x' size' e') (links_ran chain.links) (links_ran chain'.links) w since since' s t)
