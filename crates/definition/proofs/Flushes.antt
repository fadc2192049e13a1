-- Request 14 in its own words: registers and watched longs change at any place, and a flush that empties both caches comes after each change and before the
-- next access, PLOAD or probe. It is the theorem over epochs (Epochs.antt), whose premise follows. Assumes nothing but what the statements say.
use mathlib.Core.Path.{◌≡◌, refl, ap, sym, ◌∙◌}
use mathlib.Core.List.{List, [], ◌∷◌, ◌++◌}
use mathlib.Core.Bool.{Bool, true, false, true≢false}
use mathlib.Core.Logic.{◌⊎◌, inl, inr, ⊎_elim}
use Rattle.std.specs.Prelude.{if◌then◌else◌}
use Rattle.definition.specs.Translate.{Caches, empty_caches}
use Rattle.definition.specs.Calls.{access, loading, testing, probing, flushing_all, flushing_code, flushing_page, flushing_frame}
use Rattle.definition.proofs.Replay.{watched, other, after, In}
use Rattle.definition.proofs.Choice.{if_by, and_no}
use Rattle.definition.proofs.Lists.{All, all_both, in_right, in_either, Paired}
use Rattle.definition.proofs.Turns.{Turn, under, after_turn, vacant, Source, source, sources_in, starts_after, since_after, Made, made, watches_from, answers_of, watches_of, Suits, Fresh, Same, Allowed, registers_in, memory_in, empties, is_flush, is_use, FlushFirst, made_in, until_flush, Unchanged, ChangesFlushed}
use Rattle.definition.proofs.Epochs.{walks_in, epochs}

-- ---- up to the next flush that empties both
not_made : (t : Turn) → is_use t ≡ false → (w : Made) → In w (made_in t) → ⊥
not_made (under g (watched a m)) e w i = true≢false e
not_made (under g (other call m)) e w i = i

-- what is one of them is made now, or comes later and the turn is no such flush
until_either : (c : Caches) (t : Turn) (rest : List Turn) (w : Made) → In w (until_flush c (t ∷ rest)) → In w (made_in t) ⊎ In w (until_flush (after_turn c t) rest)
unfolding until_flush
until_either c t rest w = go (empties c t)
  where
    go : (b : Bool) → In w (if b then [] else made_in t ++ until_flush (after_turn c t) rest) → In w (made_in t) ⊎ In w (until_flush (after_turn c t) rest)
    go true i = absurd i
    go false i = in_either w (made_in t) (until_flush (after_turn c t) rest) i

until_later : (c : Caches) (t : Turn) (rest : List Turn) (w : Made) → empties c t ≡ false → In w (until_flush (after_turn c t) rest) → In w (until_flush c (t ∷ rest))
unfolding until_flush
until_later c t rest w f i = rw f (in_right w (made_in t) (until_flush (after_turn c t) rest) i)

-- where the flush comes first, none is made before it
none_before : (c : Caches) (l : List Turn) → FlushFirst c l → (w : Made) → In w (until_flush c l) → ⊥
unfolding FlushFirst until_flush
none_before c [] h w i = i
none_before c (t ∷ rest) (inl e) w i = rw e at i
none_before c (t ∷ rest) (inr h) w i =
    ⊎_elim (λ k. not_made t h.0 w k) (λ k. none_before (after_turn c t) rest h.1 w k) (until_either c t rest w i)

-- ---- a turn suits every watched access that is made behind it and before that flush
abbrev SuitsAt : Made → Turn → Type 0
SuitsAt w t = Suits w (source (registers_in t) (memory_in t))

made_suits : (t : Turn) (w : Made) → In w (made_in t) → SuitsAt w t
made_suits (under g (watched a m)) w (inr x4) = elim x4 [ ]
made_suits (under g (watched a m)) w (inl e) = record { registers = ap (λ (v : Made). v.registers) (sym e); reads = λ at i. rw e }
made_suits (under g (other call m)) w i = absurd i

before_suits : (coming : List Made) (t next : Turn) (w : Made) → Unchanged coming t next → In w coming → SuitsAt w next → SuitsAt w t
before_suits coming t next w u i s =
    record { registers = u.registers ∙ s.registers; reads = λ at k. s.reads at k ∙ sym (u.reads w i at k) }

stays : (c : Caches) (t : Turn) (rest : List Turn) → ChangesFlushed c (t ∷ rest) → (w : Made) → In w (until_flush (after_turn c t) rest) → SuitsAt w t
unfolding ChangesFlushed until_flush
stays c t [] h w i = absurd i
stays c t (next ∷ rest) h w i =
    let d = after_turn c t in
    ⊎_elim
    (λ u.
    before_suits (until_flush d (next ∷ rest)) t next w u i
    (⊎_elim (λ k. made_suits next w k) (λ k. stays d next rest h.1 w k) (until_either d next rest w i)))
    (λ f. absurd (none_before d (next ∷ rest) f w i)) h.0

source_suits : (t : Turn) (w : Made) → SuitsAt w t → All (Suits w) (sources_in t)
source_suits (under g (watched a m)) w s = (s, tt)
source_suits (under g (other (access a) m)) w s = (s, tt)
source_suits (under g (other (loading code write address) m)) w s = (s, tt)
source_suits (under g (other (testing code write level address) m)) w s = tt
source_suits (under g (other (probing own instruction write address) m)) w s = tt
source_suits (under g (other flushing_all m)) w s = tt
source_suits (under g (other (flushing_code code mask) m)) w s = tt
source_suits (under g (other (flushing_page code mask address) m)) w s = tt
source_suits (under g (other (flushing_frame frame) m)) w s = tt

-- ---- so every watched access is made in an epoch that suits it
-- the sources of the epoch suit each that is to come before the flush
abbrev Coming : List Source → Caches → List Turn → Type 0
Coming since c l = (w : Made) → In w (until_flush c l) → All (Suits w) since

empties_starts : (c : Caches) (t : Turn) → starts_after c t ≡ false → empties c t ≡ false
empties_starts c (under g now) f = and_no (is_flush now) (vacant (after g c now)) f

coming_next : (since : List Source) (c : Caches) (t : Turn) (rest : List Turn) → ChangesFlushed c (t ∷ rest) → Coming since c (t ∷ rest)
    → Coming (since_after since c t) (after_turn c t) rest
unfolding since_after
coming_next since c t rest h k w i =
    if_by (All (Suits w)) (starts_after c t) [] (sources_in t ++ since) (λ v. tt)
    (λ f.
    all_both (Suits w) (sources_in t) since (source_suits t w (stays c t rest h w i)) (k w (until_later c t rest w (empties_starts c t f) i)))

changes_later : (c : Caches) (t : Turn) (rest : List Turn) → ChangesFlushed c (t ∷ rest) → ChangesFlushed (after_turn c t) rest
unfolding ChangesFlushed
changes_later c t [] h = tt
changes_later c t (next ∷ rest) h = h.1

flushed_fresh : (since : List Source) (c : Caches) (l : List Turn) → ChangesFlushed c l → Coming since c l → All Fresh (watches_from c since l)
unfolding watches_from until_flush
flushed_fresh since c [] h k = tt
flushed_fresh since c (under g (watched a m) ∷ rest) h k =
    let t = under g (watched a m) in (
      k (made g a m) (inl refl),
      flushed_fresh (since_after since c t) (after_turn c t) rest (changes_later c t rest h) (coming_next since c t rest h k),
    )
flushed_fresh since c (under g (other call m) ∷ rest) h k =
    let t = under g (other call m) in
    flushed_fresh (since_after since c t) (after_turn c t) rest (changes_later c t rest h) (coming_next since c t rest h k)

-- (E) of a replay that keeps the request's rule
pub changes_fresh : (l : List Turn) → ChangesFlushed empty_caches l → All Fresh (watches_of l)
changes_fresh l h = flushed_fresh [] empty_caches l h (λ w i. tt)

-- the request: 'If both replays have the same registers and the same watched longs at each watched access, and none is refused, the answers are the same,
-- and each is the cacheless walk's with the registers and tables of that moment.'
pub registers_change : (l l' : List Turn) → ChangesFlushed empty_caches l → ChangesFlushed empty_caches l' → Paired Same (watches_of l) (watches_of l')
    → All Allowed (watches_of l) → All Allowed (watches_of l') → (answers_of l ≡ answers_of l') × (answers_of l ≡ walks_in (watches_of l))
registers_change l l' h h' p t t' =
    epochs l l' (record { fresh = changes_fresh l h; allowed = t }) (record { fresh = changes_fresh l' h'; allowed = t' }) p
