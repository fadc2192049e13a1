-- What a chain of calls comes to, at whatever door: the watched calls tell the answers of the definition's run, and what the caller keeps are the caches
-- that the run leaves. A door says which caches it keeps and how an answer is told; demand 3 and request 14 stand here once, for all doors.
-- Assumes nothing but what the statements say.
use Prim.Native.Nat.{ℕ}
use mathlib.Core.Path.{◌≡◌, refl, ap, sym, ◌∙◌}
use mathlib.Core.List.{List, [], ◌∷◌, ◌++◌, map}
use Rattle.definition.specs.Memory.{Memory, fetch_of}
use Rattle.definition.specs.Translate.{Caches, empty_caches, translate, cacheless}
use Rattle.definition.specs.Calls.{Call, calling}
use Rattle.definition.proofs.Replay.{Moment, watched, other, memory_at, after_all, answers_from, answers, watched_of, walks_of, In, Steady, Accepted, CleanSnapshot, Since}
use Rattle.definition.specs.declared.Registers.{Registers}
use Rattle.definition.specs.declared.Access.{Access}
use Rattle.definition.specs.declared.Translation.{Translation}
use Rattle.definition.proofs.Lists.{All, Paired}
use Rattle.definition.proofs.Turns.{Turn, under, turns_of, after_turns, answers_through, watches_of, Same, Allowed, Kept, ChangesFlushed}
use Rattle.definition.proofs.Epochs.{walks_in, epochs}
use Rattle.definition.proofs.Flushes.{registers_change}
use Rattle.definition.proofs.Independence.{one_after, one_answers, after_anything, independence}
use Rattle.definition.proofs.Audited.{clean_after, clean_run, clean_independence}

-- calls at these turns, from the caches c to the caches d: what the watched ones were told, in order
pub record Ran {T : Type 0} (tell : Translation → T) (c : Caches) (l : List Turn) (told : List T) (d : Caches) : Type 0 where
  pub tells : told ≡ map tell (answers_through c l)
  pub leaves : d ≡ after_turns c l

-- ---- call by call
module _ {T : Type 0} {tell : Translation → T} where
  pub ran_none : {c : Caches} → Ran tell c [] [] c
  unfolding answers_through after_turns
  ran_none = record { tells = refl; leaves = refl }

  pub ran_watched : {c d e : Caches} {out : T} {rest : List Turn} {told : List T} (g : Registers) (a : Access) (m : Memory)
      → out ≡ tell (translate g a m c).answer → d ≡ (translate g a m c).caches → Ran tell d rest told e
      → Ran tell c (under g (watched a m) ∷ rest) (out ∷ told) e
  unfolding answers_through after_turns
  ran_watched {rest = rest} g a m is-out is-d more =
      record {
        tells = rw (is-out, more.tells, is-d) refl;
        leaves = more.leaves ∙ ap (λ (k : Caches). after_turns k rest) is-d;
      }

  pub ran_passed : {c d e : Caches} {rest : List Turn} {told : List T} (g : Registers) (call : Call) (m : Memory)
      → d ≡ (calling g m c call).caches → Ran tell d rest told e → Ran tell c (under g (other call m) ∷ rest) told e
  unfolding answers_through after_turns
  ran_passed {rest = rest} g call m is-d more =
      record {
        tells = more.tells ∙ ap (λ (k : Caches). map tell (answers_through k rest)) is-d;
        leaves = more.leaves ∙ ap (λ (k : Caches). after_turns k rest) is-d;
      }

  -- ---- two chains, by what the definition's runs give
  runs_alike : {c c' d d' : Caches} {l l' : List Turn} {told told' : List T} (walks : List Translation) → Ran tell c l told d → Ran tell c' l' told' d'
      → (answers_through c l ≡ answers_through c' l') × (answers_through c l ≡ walks) → (told ≡ told') × (told ≡ map tell walks)
  runs_alike walks r r' s = (r.tells ∙ ap (map tell) s.0 ∙ sym r'.tells, r.tells ∙ ap (map tell) s.1)

  -- and of those under one set of registers
  runs_alike_under : (g : Registers) {c c' d d' : Caches} (l l' : List Moment) {told told' : List T} (walks : List Translation)
      → Ran tell c (turns_of g l) told d → Ran tell c' (turns_of g l') told' d'
      → (answers_from g c l ≡ answers_from g c' l') × (answers_from g c l ≡ walks) → (told ≡ told') × (told ≡ map tell walks)
  runs_alike_under g {c} {c'} l l' walks r r' s =
      runs_alike walks r r' (one_answers g c l ∙ s.0 ∙ sym (one_answers g c' l'), one_answers g c l ∙ s.1)

  after_run : (g : Registers) {c d : Caches} (before : List Moment) {told : List T} (a : Access) (m : Memory) → Ran tell c (turns_of g before) told d
      → (translate g a m (after_all g c before)).answer ≡ (cacheless g a m).answer → (translate g a m d).answer ≡ (cacheless g a m).answer
  after_run g {c} before a m r same =
      ap (λ (k : Caches). (translate g a m k).answer) (r.leaves ∙ one_after g c before) ∙ same

  -- ---- from the empty caches
  -- what the watched calls of a chain under one set of registers were told
  pub chain_tells : (g : Registers) {c d : Caches} (l : List Moment) {told : List T} → c ≡ empty_caches → Ran tell c (turns_of g l) told d
      → told ≡ map tell (answers g l)
  chain_tells g {c} l e r = r.tells ∙ ap (map tell) (one_answers g c l ∙ ap (λ (k : Caches). answers_from g k l) e)

  -- an access after a chain
  pub after_chain : (g : Registers) {c d : Caches} (before : List Moment) {told : List T} (a : Access) (m : Memory)
      → c ≡ empty_caches → Ran tell c (turns_of g before) told d
      → ((now : Moment) (at : ℕ) → In now before → In at (cacheless g a m).asked → fetch_of (memory_at now) at ≡ fetch_of m at)
      → (translate g a m d).answer ≡ (cacheless g a m).answer
  after_chain g before a m e r s = after_run g before a m r (rw e (after_anything g before a m s))

  -- demand 3
  pub chains_independent : (g : Registers) {c c' d d' : Caches} (l l' : List Moment) {told told' : List T} → c ≡ empty_caches → c' ≡ empty_caches
      → Ran tell c (turns_of g l) told d → Ran tell c' (turns_of g l') told' d' → watched_of l ≡ watched_of l' → Steady g (l ++ l') → Accepted g (l ++ l')
      → (told ≡ told') × (told ≡ map tell (walks_of g l))
  chains_independent g l l' e e' r r' w s t = runs_alike_under g l l' (walks_of g l) r r' (rw (e, e') (independence g l l' w s t))

  -- request 14
  pub chains_epochs : {c c' d d' : Caches} (l l' : List Turn) {told told' : List T} → c ≡ empty_caches → c' ≡ empty_caches
      → Ran tell c l told d → Ran tell c' l' told' d' → Kept (watches_of l) → Kept (watches_of l') → Paired Same (watches_of l) (watches_of l')
      → (told ≡ told') × (told ≡ map tell (walks_in (watches_of l)))
  chains_epochs l l' e e' r r' k k' p = runs_alike (walks_in (watches_of l)) r r' (rw (e, e') (epochs l l' k k' p))

  -- and in its own words
  pub chains_change : {c c' d d' : Caches} (l l' : List Turn) {told told' : List T} → c ≡ empty_caches → c' ≡ empty_caches
      → Ran tell c l told d → Ran tell c' l' told' d' → ChangesFlushed empty_caches l → ChangesFlushed empty_caches l' → Paired Same (watches_of l) (watches_of l')
      → All Allowed (watches_of l) → All Allowed (watches_of l') → (told ≡ told') × (told ≡ map tell (walks_in (watches_of l)))
  chains_change l l' e e' r r' h h' p t t' = runs_alike (walks_in (watches_of l)) r r' (rw (e, e') (registers_change l l' h h' p t t'))

  -- ---- from a clean snapshot, over the memory m as it stood then
  pub after_chain_from_clean : (g : Registers) {c d : Caches} (before : List Moment) {told : List T} (m : Memory) (a : Access) (n : Memory)
      → CleanSnapshot g m c → Ran tell c (turns_of g before) told d → ((at : ℕ) → In at (cacheless g a n).asked → fetch_of m at ≡ fetch_of n at)
      → ((now : Moment) (at : ℕ) → In now before → In at (cacheless g a n).asked → fetch_of (memory_at now) at ≡ fetch_of n at)
      → (translate g a n d).answer ≡ (cacheless g a n).answer
  after_chain_from_clean g {c} before m a n clean r first same = after_run g before a n r (clean_after g m c clean before a n first same)

  pub clean_chain : (g : Registers) {c d : Caches} (m : Memory) (l : List Moment) {told : List T} → CleanSnapshot g m c → Ran tell c (turns_of g l) told d
      → Since g m l → Steady g l → told ≡ map tell (walks_of g l)
  clean_chain g {c} m l clean r since s = r.tells ∙ ap (map tell) (one_answers g c l ∙ clean_run g m c clean l since s)

  pub clean_chains : (g : Registers) {c c' d d' : Caches} (m m' : Memory) (l l' : List Moment) {told told' : List T}
      → CleanSnapshot g m c → CleanSnapshot g m' c' → Ran tell c (turns_of g l) told d → Ran tell c' (turns_of g l') told' d' → watched_of l ≡ watched_of l'
      → Since g m l → Since g m' l' → Steady g (l ++ l') → Accepted g (l ++ l') → (told ≡ told') × (told ≡ map tell (walks_of g l))
  clean_chains g {c} {c'} m m' l l' clean clean' r r' w since since' s t =
      runs_alike_under g l l' (walks_of g l) r r' (clean_independence g m m' c c' clean clean' l l' w since since' s t)

-- ---- a door that gives the answer itself
abbrev pub itself : Translation → Translation
itself t = t

map_itself : (l : List Translation) → map itself l ≡ l
map_itself [] = refl
map_itself (t ∷ l) = rw (map_itself l)

pub as_walked : {told walks : List Translation} → told ≡ map itself walks → told ≡ walks
as_walked {walks = walks} e = e ∙ map_itself walks

pub as_walks : {told told' walks : List Translation} → (told ≡ told') × (told ≡ map itself walks) → (told ≡ told') × (told ≡ walks)
as_walks d = (d.0, as_walked d.1)
