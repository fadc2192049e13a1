-- Request 14, and with it demand 3: over a replay whose registers and tables change, a watched access gets the cacheless walk's answer, if every access and
-- PLOAD before it in its epoch was made under its registers and over a memory where its walk's longs read as they do now. Assumes nothing but what the
-- statements say.
use mathlib.Core.Path.{◌≡◌, refl, ap, sym, subst, ◌∙◌}
use mathlib.Core.List.{List, [], ◌∷◌, ◌++◌, map}
use mathlib.Core.Bool.{true, false, not}
use Rattle.definition.specs.Memory.{Memory}
use Rattle.definition.specs.Cache030.{Entry, flushed_all}
use Rattle.definition.specs.Cache040.{Slot, flushed_all040}
use Rattle.definition.specs.Refusal.{refusal_of}
use Rattle.definition.specs.Flush.{flush_all}
use Rattle.definition.specs.Translate.{Caches, empty_caches, translate}
use Rattle.definition.specs.Calls.{Call, access, loading, testing, probing, flushing_all, flushing_code, flushing_page, flushing_frame, calling}
use Rattle.definition.proofs.Replay.{Moment, watched, other, memory_at, after}
use Rattle.definition.specs.declared.Registers.{Registers}
use Rattle.definition.specs.declared.Translation.{Translation}
use Rattle.definition.proofs.Choice.{if_by}
use Rattle.definition.proofs.Lists.{All, all_at, all_pass, Paired}
use Rattle.definition.proofs.Turns.{Turn, under, after_turn, after_turns, answers_through, vacant, Source, source, sources_in, starts_after, since_after, since_all, Made, made, walk_answer, Watch, watches_from, answers_of, watches_of, ReadsAlike, Suits, Fresh, Same, Allowed, Kept}
use Rattle.definition.proofs.Entries.{Fit, empty_fit, after_fit, after_keeps, calling_keeps}
use Rattle.definition.proofs.Entries030.{Sound030}
use Rattle.definition.proofs.Entries030 as entries
use Rattle.definition.proofs.Entries040.{Sound040}
use Rattle.definition.proofs.Entries040 as slots
use Rattle.definition.proofs.Hits030.{Good030}
use Rattle.definition.proofs.Hits040.{Good040}
use Rattle.definition.proofs.OneAccess.{Sound, empty_sound, vacant_sound, sound_keeps, sound_right, translate_answer, cacheless_answer}

-- ---- what the caches hold
-- the caches are right for every access that all of `since` suit: 'sound over the moments since no entry was valid'
pub record Held (since : List Source) (c : Caches) : Type 0 where
  pub fit : Fit c
  pub sound : (w : Made) → All (Suits w) since → Sound w.registers (ReadsAlike w) c

-- nothing came before the empty caches
pub empty_held : Held [] empty_caches
empty_held = record { fit = empty_fit; sound = λ w s. empty_sound w.registers (ReadsAlike w) }

-- an access to them that they suit gets the cacheless walk's answer
pub held_answer : (since : List Source) (c : Caches) → Held since c → (w : Made) → All (Suits w) since
    → (translate w.registers w.access w.memory c).answer ≡ walk_answer w
held_answer since c h w s =
    translate_answer w.registers (ReadsAlike w) w.access w.memory c
    (sound_right w.registers (ReadsAlike w) c (h.sound w s)) (λ m r. r)

module _ (w : Made) (c : Caches) (h : Sound w.registers (ReadsAlike w) c) where
  -- an access or PLOAD that suits it keeps them right for it
  source_keeps : (g : Registers) (now : Moment) → Suits w (source g (memory_at now)) → Sound w.registers (ReadsAlike w) (after g c now)
  source_keeps g now s =
      subst (λ (r : Registers). Sound w.registers (ReadsAlike w) (after r c now)) (sym s.registers)
      (after_keeps (Sound030 (Good030 w.registers (ReadsAlike w))) (Sound040 (Good040 w.registers (ReadsAlike w))) w.registers now
      (sound_keeps w.registers (ReadsAlike w) (memory_at now) s.reads) c h)

  -- any other call reads neither registers nor memory for what it leaves: as if it were made at the access's own moment
  own_keeps : (call : Call) → Sound w.registers (ReadsAlike w) (calling w.registers w.memory c call).caches
  own_keeps call =
      calling_keeps (Sound030 (Good030 w.registers (ReadsAlike w))) (Sound040 (Good040 w.registers (ReadsAlike w))) w.registers w.memory
      (sound_keeps w.registers (ReadsAlike w) w.memory (λ at i. refl)) c h call

-- ---- one turn
grown_sound : (since : List Source) (c : Caches) → Held since c → (t : Turn) (w : Made) → All (Suits w) (sources_in t ++ since)
    → Sound w.registers (ReadsAlike w) (after_turn c t)
unfolding calling
grown_sound since c h (under g (watched a m)) w s = source_keeps w c (h.sound w s.1) g (watched a m) s.0
grown_sound since c h (under g (other (access a) m)) w s = source_keeps w c (h.sound w s.1) g (other (access a) m) s.0
grown_sound since c h (under g (other (loading code write address) m)) w s =
    source_keeps w c (h.sound w s.1) g (other (loading code write address) m) s.0
grown_sound since c h (under g (other (testing code write level address) m)) w s = h.sound w s
grown_sound since c h (under g (other (probing own instruction write address) m)) w s = h.sound w s
grown_sound since c h (under g (other flushing_all m)) w s = own_keeps w c (h.sound w s) flushing_all
grown_sound since c h (under g (other (flushing_code code mask) m)) w s = own_keeps w c (h.sound w s) (flushing_code code mask)
grown_sound since c h (under g (other (flushing_page code mask address) m)) w s = own_keeps w c (h.sound w s) (flushing_page code mask address)
grown_sound since c h (under g (other (flushing_frame frame) m)) w s = own_keeps w c (h.sound w s) (flushing_frame frame)

turn_fit : (c : Caches) (t : Turn) → Fit c → Fit (after_turn c t)
turn_fit c (under g now) h = after_fit g now c h

-- the law of one turn: caches without a valid entry are right for anything, and else the turn is one more of the epoch
pub turn_held : (since : List Source) (c : Caches) (t : Turn) → Held since c → Held (since_after since c t) (after_turn c t)
unfolding since_after
turn_held since c t h =
    let fit = turn_fit c t h.fit in
    if_by (λ (l : List Source). Held l (after_turn c t)) (starts_after c t) [] (sources_in t ++ since)
    (λ v. record { fit = fit; sound = λ w s. vacant_sound w.registers (ReadsAlike w) (after_turn c t) fit v })
    (λ f. record { fit = fit; sound = grown_sound since c h t })

-- ---- a replay
pub turns_held : (since : List Source) (c : Caches) (l : List Turn) → Held since c → Held (since_all since c l) (after_turns c l)
unfolding since_all after_turns
turns_held since c [] h = h
turns_held since c (t ∷ rest) h = turns_held (since_after since c t) (after_turn c t) rest (turn_held since c t h)

abbrev pub walks_in : List Watch → List Translation
walks_in l = map (λ (w : Watch). walk_answer w.made) l

-- one replay: each watched access gets the answer of the cacheless walk with the registers and tables of its moment, a refusal included
pub turns_answers : (since : List Source) (c : Caches) (l : List Turn) → Held since c → All Fresh (watches_from c since l)
    → answers_through c l ≡ walks_in (watches_from c since l)
unfolding answers_through watches_from
turns_answers since c [] h e = refl
turns_answers since c (under g (watched a m) ∷ rest) h e =
    let t = under g (watched a m) in
    rw (held_answer since c h (made g a m) e.0, turns_answers (since_after since c t) (after_turn c t) rest (turn_held since c t h) e.1)
turns_answers since c (under g (other call m) ∷ rest) h e =
    let t = under g (other call m) in
    turns_answers (since_after since c t) (after_turn c t) rest (turn_held since c t h) e

-- ---- two replays
-- one watched access and its like in the other replay
same_walk : (w w' : Watch) → Same w w' → Allowed w → Allowed w' → walk_answer w.made ≡ walk_answer w'.made
same_walk w w' s t t' =
    let m' = w'.made.memory in
    let at_both : walk_answer (made w.made.registers w.made.access m') ≡ walk_answer w'.made = rw (s.registers, s.access) in
    cacheless_answer w.made.registers w.made.access w.made.memory m' t (rw (s.registers, s.access) t') s.reads ∙ at_both

pub same_walks : (l l' : List Watch) → Paired Same l l' → All Allowed l → All Allowed l' → walks_in l ≡ walks_in l'
same_walks [] [] p t t' = refl
same_walks [] (w' ∷ l') p t t' = absurd p
same_walks (w ∷ l) [] p t t' = absurd p
same_walks (w ∷ l) (w' ∷ l') p t t' = rw (same_walk w w' p.0 t.0 t'.0, same_walks l l' p.1 t.1 t'.1)

-- the theorem, from caches that hold what came of their sources
pub held_independent : (since since' : List Source) (c c' : Caches) → Held since c → Held since' c' → (l l' : List Turn)
    → Kept (watches_from c since l) → Kept (watches_from c' since' l') → Paired Same (watches_from c since l) (watches_from c' since' l')
    → (answers_through c l ≡ answers_through c' l') × (answers_through c l ≡ walks_in (watches_from c since l))
held_independent since since' c c' h h' l l' k k' p =
    let one = turns_answers since c l h k.fresh in (
      one
          ∙ same_walks (watches_from c since l) (watches_from c' since' l') p k.allowed k'.allowed
          ∙ sym (turns_answers since' c' l' h' k'.fresh),
      one,
    )

-- the theorem: two replays from empty caches, with changing registers and tables, whose watched accesses are one by one the same under the same registers,
-- over memories that read alike along their walks' lists, none refused, and each made in an epoch whose accesses and PLOADs so far suit it: the answers
-- agree, and each is the cacheless walk's with the registers and tables of its moment
pub epochs : (l l' : List Turn) → Kept (watches_of l) → Kept (watches_of l') → Paired Same (watches_of l) (watches_of l')
    → (answers_of l ≡ answers_of l') × (answers_of l ≡ walks_in (watches_of l))
epochs l l' k k' p = held_independent [] [] empty_caches empty_caches empty_held empty_held l l' k k' p

-- ---- where an epoch starts
-- none is valid in either
vacant_by : (c : Caches) → All (λ (e : Entry). e.valid ≡ false) c.c030.entries → All (λ (s : Slot). s.valid ≡ false) c.c040.slots → vacant c ≡ true
unfolding vacant
vacant_by c h k =
    rw (
      all_pass (λ (e : Entry). not e.valid) c.c030.entries (λ e i. ap not (all_at (λ (e : Entry). e.valid ≡ false) c.c030.entries e i h)),
      all_pass (λ (s : Slot). not s.valid) c.c040.slots (λ s i. ap not (all_at (λ (s : Slot). s.valid ≡ false) c.c040.slots s i k)),
    )

-- a flush of all is refused by check 4 alone, and leaves no valid entry
pub flush_all_vacant : (c : Caches) → Fit c → vacant (flush_all c).caches ≡ true
unfolding flush_all refusal_of
flush_all_vacant c h =
    rw h.four
    (vacant_by (record { c030 = flushed_all c.c030; c040 = flushed_all040 c.c040 }) (entries.flushed_all_invalid c.c030)
    (slots.flushed_all_invalid c.c040))

-- so an epoch starts behind it, whatever came before
pub flush_all_starts : (g : Registers) (m : Memory) (since : List Source) (c : Caches) → Fit c → since_after since c (under g (other flushing_all m)) ≡ []
unfolding since_after calling
flush_all_starts g m since c h = rw (flush_all_vacant c h)
