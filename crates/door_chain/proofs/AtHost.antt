-- Demand 3 and request 14 at the host's door: whatever the host called before on the arrays that it keeps, a watched `mmu_translate` tells the numbers of the
-- cacheless walk's answer, all but the count. Assumes nothing but what the statements say; a link of a chain is the contract of its call.
use Prim.Native.Nat.{ℕ}
use mathlib.Core.Path.{◌≡◌, refl, ap, sym, subst, ◌∙◌}
use mathlib.Core.List.{List, [], ◌∷◌, ◌++◌, map}
use mathlib.Core.Logic.{inl, inr}
use native.Mathlib.Omega.{arith}
use lib.ListN.{length, get_or}
use Rattle.definition.specs.Memory.{Memory, fetch_of}
use Rattle.definition.specs.Translate.{Caches, empty_caches, Translated, cacheless}
use Rattle.definition.specs.Load.{load}
use Rattle.definition.specs.Calls.{calling}
use Rattle.definition.proofs.Replay.{Moment, memory_at, answers, watched_of, walks_of, In, Steady, Accepted}
use Rattle.definition.proofs.Accepting as accepting
use Rattle.definition.proofs.Accepting.{accepted_both}
use Rattle.definition.specs.declared.Translation.{Translation}
use Rattle.definition.specs.declared.Translation.TheVariants as translation
use Rattle.definition.proofs.Lists.{All, all_map, Paired}
use Rattle.definition.proofs.Turns as turns
use Rattle.definition.proofs.Turns.{Turn, turns_of, after_turn, Source, since_after, Made, Watch, watches_from, watches_of, Same, Allowed, Kept, ChangesFlushed}
use Rattle.definition.proofs.Epochs.{walks_in}
use Rattle.cache.specs.Atc030.{cache_of}
use Rattle.cache.specs.Atc040.{cache040_of}
use Rattle.checks.proofs.Pairs.{beside}
use Rattle.load.proofs.Loading.{load_beside}
use Rattle.chain.specs.Chain.{Arrays, caches_in}
use Rattle.chain.proofs.Runs.{Ran, ran_none, ran_watched, ran_passed, chain_tells, after_chain, chains_independent, chains_epochs, chains_change}
use Rattle.numbers.specs.Numbers.{registers_of, translation_numbers, TranslatedTo}
use Rattle.door_chain.specs.AtHost.{Asked, access_in, HostCall, HostMoment, watched, other, HostTurn, under, call_of, moments_at, turn_of, turns_at, answer_in, answer_numbers, made_at, asked_at, made_of, SameNumbers, Taken, Unrefused, walk_numbers, ToldAlike, Tells, HostPasses, translates, loads, tests, probes, flushes_all, flushes_code, flushes_page, flushes_frame, HostLinks, none, watch, pass, all_under, HostChain}

-- ---- one call
-- the four numbers do not hang on the count
without_count : (t : Translation) (count : ℕ) → answer_in (translation_numbers t count) ≡ answer_numbers t
without_count (translation.Address x) count = refl
without_count (translation.Fault kind cause x) count = refl
without_count (translation.Refused n) count = refl

told_answer : {t : Translated} {out : List ℕ} {after : Caches} → TranslatedTo t out after → answer_in out ≡ answer_numbers t.answer
told_answer {t} k = ap answer_in k.answers ∙ without_count t.answer (length t.asked)

-- the arrays at exit are the caches that the definition's call leaves
passed : (ns : List ℕ) (m : Memory) {x y : Arrays} {call : HostCall} → HostPasses ns m x call y
    → caches_in y ≡ (calling (registers_of ns) m (caches_in x) (call_of call)).caches
unfolding calling
passed ns m (translates a k) = k.leaves
passed ns m {x} (loads code write address k) =
    beside (load (registers_of ns) code write address m (caches_in x)).caches (k (cache040_of x.c040)).leaves
    (sym (load_beside (registers_of ns) code write address m (caches_in x)))
passed ns m (tests code write level address) = refl
passed ns m (probes flags address) = refl
passed ns m (flushes_all k) = k.leaves
passed ns m {x} (flushes_code code mask k) = (k (cache040_of x.c040)).leaves
passed ns m {x} (flushes_page code mask address k) = (k (cache040_of x.c040)).leaves
passed ns m {x} (flushes_frame frame k) = (k (cache_of x.c030)).leaves

-- ---- calls one after the other
links_ran : {x y : Arrays} {l : List HostTurn} {told : List (List ℕ)} → HostLinks x l told y
    → Ran answer_numbers (caches_in x) (turns_at l) (map answer_in told) (caches_in y)
links_ran none = ran_none
links_ran (watch ns a m k more) =
    ran_watched (registers_of ns) (access_in a) m (told_answer k) k.leaves (links_ran more)
links_ran (pass ns call m k more) = ran_passed (registers_of ns) (call_of call) m (passed ns m k) (links_ran more)

-- ---- watched calls, and what they are to the definition
-- as they are made
watches_made : (c : Caches) (since : List Source) (l : List HostTurn)
    → map (λ (w : Watch). w.made) (watches_from c since (turns_at l)) ≡ map made_of (made_at l)
unfolding watches_from made_at
watches_made c since [] = refl
watches_made c since (under ns (watched a m) ∷ rest) =
    let t = turn_of (under ns (watched a m)) in rw (watches_made (after_turn c t) (since_after since c t) rest)
watches_made c since (under ns (other call m) ∷ rest) =
    let t = turn_of (under ns (other call m)) in watches_made (after_turn c t) (since_after since c t) rest

-- and their cacheless walks
walks_made : (c : Caches) (since : List Source) (l : List HostTurn) → map answer_numbers (walks_in (watches_from c since (turns_at l))) ≡ map walk_numbers (made_at l)
unfolding watches_from made_at
walks_made c since [] = refl
walks_made c since (under ns (watched a m) ∷ rest) =
    let t = turn_of (under ns (watched a m)) in rw (walks_made (after_turn c t) (since_after since c t) rest)
walks_made c since (under ns (other call m) ∷ rest) =
    let t = turn_of (under ns (other call m)) in walks_made (after_turn c t) (since_after since c t) rest

paired_map : {X Y : Type 0} (R : X → X → Type 0) (Q : Y → Y → Type 0) (f : X → Y) → ((x y : X) → R x y → Q (f x) (f y)) → (l l' : List X) → Paired R l l'
    → Paired Q (map f l) (map f l')
paired_map R Q f h [] [] p = tt
paired_map R Q f h [] (y ∷ l') p = absurd p
paired_map R Q f h (x ∷ l) [] p = absurd p
paired_map R Q f h (x ∷ l) (y ∷ l') p = (h x y p.0, paired_map R Q f h l l' p.1)

paired_before : {X Y : Type 0} (R : X → X → Type 0) (Q : Y → Y → Type 0) (f : X → Y) → ((x y : X) → Q (f x) (f y) → R x y) → (l l' : List X)
    → Paired Q (map f l) (map f l') → Paired R l l'
paired_before R Q f h [] [] p = tt
paired_before R Q f h [] (y ∷ l') p = absurd p
paired_before R Q f h (x ∷ l) [] p = absurd p
paired_before R Q f h (x ∷ l) (y ∷ l') p = (h x y p.0, paired_before R Q f h l l' p.1)

all_before : {X Y : Type 0} (P : X → Type 0) (Q : Y → Type 0) (f : X → Y) → ((x : X) → Q (f x) → P x) → (l : List X) → All Q (map f l) → All P l
all_before P Q f h [] a = tt
all_before P Q f h (x ∷ l) a = (h x a.0, all_before P Q f h l a.1)

-- nothing of a watch but how it is made is asked
abbrev SameMade : Made → Made → Type 0
SameMade w w' = Same (turns.watch w []) (turns.watch w' [])

abbrev AllowedMade : Made → Type 0
AllowedMade w = Allowed (turns.watch w [])

-- the same numbers are the same accesses
same_watches : (l l' : List HostTurn) → Paired SameNumbers (made_at l) (made_at l') → Paired Same (watches_of (turns_at l)) (watches_of (turns_at l'))
same_watches l l' p =
    paired_before Same SameMade (λ (w : Watch). w.made) (λ w w' s. record { access = s.access; registers = s.registers; reads = s.reads })
    (watches_of (turns_at l)) (watches_of (turns_at l'))
    (rw (watches_made empty_caches [] l, watches_made empty_caches [] l')
    (paired_map SameNumbers SameMade made_of
    (λ w w' s. record { access = ap access_in s.asked; registers = ap registers_of s.registers; reads = s.reads }) (made_at l) (made_at l') p))

taken_allowed : (l : List HostTurn) → All Taken (made_at l) → All Allowed (watches_of (turns_at l))
taken_allowed l t =
    all_before Allowed AllowedMade (λ (w : Watch). w.made) (λ w a. a) (watches_of (turns_at l))
    (rw (watches_made empty_caches [] l) (all_map Taken AllowedMade made_of (λ w a. a) (made_at l) t))

-- what is claimed, from what the definition's runs give
told_alike : (l : List HostTurn) {told told' : List (List ℕ)}
    → (map answer_in told ≡ map answer_in told') × (map answer_in told ≡ map answer_numbers (walks_in (watches_of (turns_at l)))) → ToldAlike l told told'
told_alike l d = record { alike = d.0; walked = d.1 ∙ walks_made empty_caches [] l }

-- ---- registers that change from call to call, from empty arrays
-- request 14, over epochs
pub epochs_at_host : {x x' y y' : Arrays} (l l' : List HostTurn) {told told' : List (List ℕ)}
    → caches_in x ≡ empty_caches → caches_in x' ≡ empty_caches → HostLinks x l told y → HostLinks x' l' told' y'
    → Kept (watches_of (turns_at l)) → Kept (watches_of (turns_at l')) → Paired SameNumbers (made_at l) (made_at l') → ToldAlike l told told'
epochs_at_host l l' e e' links links' k k' p =
    told_alike l (chains_epochs (turns_at l) (turns_at l') e e' (links_ran links) (links_ran links') k k' (same_watches l l' p))

-- and in its own words: a flush that empties both caches comes after each change and before the next access, PLOAD or probe
pub registers_change_at_host : {x x' y y' : Arrays} (l l' : List HostTurn) {told told' : List (List ℕ)}
    → caches_in x ≡ empty_caches → caches_in x' ≡ empty_caches → HostLinks x l told y → HostLinks x' l' told' y'
    → ChangesFlushed empty_caches (turns_at l) → ChangesFlushed empty_caches (turns_at l') → Paired SameNumbers (made_at l) (made_at l')
    → All Taken (made_at l) → All Taken (made_at l') → ToldAlike l told told'
registers_change_at_host l l' e e' links links' h h' p t t' =
    told_alike l
    (chains_change (turns_at l) (turns_at l') e e' (links_ran links) (links_ran links') h h' (same_watches l l' p) (taken_allowed l t) (taken_allowed l' t'))

-- ---- one set of registers
one_turns : (ns : List ℕ) (l : List HostMoment) → turns_at (all_under ns l) ≡ turns_of (registers_of ns) (moments_at l)
one_turns ns [] = refl
one_turns ns (now ∷ rest) = rw (one_turns ns rest)

chain_ran : (ns : List ℕ) {x y : Arrays} (l : List HostMoment) {told : List (List ℕ)} → HostChain ns x l told y
    → Ran answer_numbers (caches_in x) (turns_of (registers_of ns) (moments_at l)) (map answer_in told) (caches_in y)
chain_ran ns {x} {y} l {told} chain =
    subst (λ (t : List Turn). Ran answer_numbers (caches_in x) t (map answer_in told) (caches_in y)) (one_turns ns l) (links_ran chain.links)

one_asked : (ns : List ℕ) (l : List HostMoment) → watched_of (moments_at l) ≡ map access_in (asked_at (all_under ns l))
unfolding watched_of made_at
one_asked ns [] = refl
one_asked ns (watched a m ∷ rest) = rw (one_asked ns rest)
one_asked ns (other call m ∷ rest) = one_asked ns rest

one_walks : (ns : List ℕ) (l : List HostMoment) → map answer_numbers (walks_of (registers_of ns) (moments_at l)) ≡ map walk_numbers (made_at (all_under ns l))
unfolding walks_of made_at
one_walks ns [] = refl
one_walks ns (watched a m ∷ rest) = rw (one_walks ns rest)
one_walks ns (other call m ∷ rest) = one_walks ns rest

-- after any calls whatever from empty arrays, `mmu_translate` tells what the cacheless walk gives, if at each of them its longs read as they do now
pub after_host_calls : (ns : List ℕ) {x y : Arrays} (z : Arrays) (before : List HostMoment) {told : List (List ℕ)} {out : List ℕ} (a : Asked) (m : Memory)
    → caches_in x ≡ empty_caches → HostChain ns x before told y → Tells ns a m y out z
    → ((now : Moment) (at : ℕ) → In now (moments_at before) → In at (cacheless (registers_of ns) (access_in a) m).asked → fetch_of (memory_at now) at ≡ fetch_of m at)
    → answer_in out ≡ walk_numbers (record { registers = ns; asked = a; memory = m })
after_host_calls ns z before a m e chain k s =
    told_answer k ∙ ap answer_numbers (after_chain (registers_of ns) (moments_at before) (access_in a) m e (chain_ran ns before chain) s)

-- demand 3: two hosts that make the same watched calls in the same order, and call whatever else they like
pub independence_at_host : (ns : List ℕ) {x x' y y' : Arrays} (l l' : List HostMoment) {told told' : List (List ℕ)}
    → caches_in x ≡ empty_caches → caches_in x' ≡ empty_caches → HostChain ns x l told y → HostChain ns x' l' told' y'
    → asked_at (all_under ns l) ≡ asked_at (all_under ns l')
    → Steady (registers_of ns) (moments_at l ++ moments_at l') → Accepted (registers_of ns) (moments_at l ++ moments_at l') → ToldAlike (all_under ns l) told told'
independence_at_host ns l l' {told} {told'} e e' chain chain' same s t = as_told both
  where
    both : (map answer_in told ≡ map answer_in told') × (map answer_in told ≡ map answer_numbers (walks_of (registers_of ns) (moments_at l)))
    both =
        chains_independent (registers_of ns) (moments_at l) (moments_at l') e e' (chain_ran ns l chain) (chain_ran ns l' chain')
        (one_asked ns l ∙ ap (map access_in) same ∙ sym (one_asked ns l')) s t

    as_told : (map answer_in told ≡ map answer_in told') × (map answer_in told ≡ map answer_numbers (walks_of (registers_of ns) (moments_at l)))
        → ToldAlike (all_under ns l) told told'
    as_told d = record { alike = d.0; walked = d.1 ∙ one_walks ns l }

-- a refusal is told by 2
no_refusal : (told : List (List ℕ)) (ts : List Translation) → map answer_in told ≡ map answer_numbers ts
    → ((out : List ℕ) → In out told → get_or out 0 0 ≡ 2 → ⊥) → (n : ℕ) → In (translation.Refused n) ts → ⊥
no_refusal [] [] e u n i = i
no_refusal [] (t ∷ ts) e u n i = let z : ◌≡◌ {A = ℕ} 0 1 = cc in absurd (omega arith)
no_refusal (out ∷ told) [] e u n i = i
no_refusal (out ∷ told) (t ∷ ts) e u n (inl is-t) = u out (inl refl) (first out one)
  where
    one : answer_in out ≡ answer_numbers (translation.Refused n)
    one = let same : answer_in out ≡ answer_numbers t = cc in same ∙ ap answer_numbers (sym is-t)

    first : (out : List ℕ) → answer_in out ≡ answer_numbers (translation.Refused n) → get_or out 0 0 ≡ 2
    first [] e = let z : ◌≡◌ {A = ℕ} 0 1 = cc in absurd (omega arith)
    first (x ∷ out) e = let two : x ≡ 2 = cc in two
no_refusal (out ∷ told) (t ∷ ts) e u n (inr i) =
    let more : map answer_in told ≡ map answer_numbers ts = cc in no_refusal told ts more (λ o j. u o (inr j)) n i

unrefused : (ns : List ℕ) {x y : Arrays} (l : List HostMoment) {told : List (List ℕ)} → caches_in x ≡ empty_caches → HostChain ns x l told y → Unrefused told
    → accepting.Unrefused (registers_of ns) (moments_at l)
unrefused ns l {told} e chain u =
    record { none = no_refusal told (answers (registers_of ns) (moments_at l)) (chain_tells (registers_of ns) (moments_at l) e (chain_ran ns l chain)) u.never }

-- the same, of hosts whose watched calls were told no refusal
pub independence_unrefused_at_host : (ns : List ℕ) {x x' y y' : Arrays} (l l' : List HostMoment) {told told' : List (List ℕ)}
    → caches_in x ≡ empty_caches → caches_in x' ≡ empty_caches → HostChain ns x l told y → HostChain ns x' l' told' y'
    → asked_at (all_under ns l) ≡ asked_at (all_under ns l') → Steady (registers_of ns) (moments_at l ++ moments_at l') → Unrefused told → Unrefused told'
    → ToldAlike (all_under ns l) told told'
independence_unrefused_at_host ns l l' e e' chain chain' same s u u' =
    independence_at_host ns l l' e e' chain chain' same s
    (accepted_both (registers_of ns) (moments_at l) (moments_at l') (unrefused ns l e chain u) (unrefused ns l' e' chain' u'))
