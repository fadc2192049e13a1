-- The mission's demand 3: what a watched access is answered does not depend on anything but the longs that its cacheless walk asks for. It is request 14's
-- theorem (Epochs.antt) of replays under one set of registers. Assumes nothing but what the statements say.
use Prim.Native.Nat.{ℕ}
use mathlib.Core.Path.{◌≡◌, refl, ap, sym, subst, ◌∙◌}
use mathlib.Core.List.{List, [], ◌∷◌, ◌++◌, map}
use mathlib.Core.Bool.{false}
use mathlib.Core.Logic.{inl, inr}
use Rattle.definition.specs.Memory.{Memory, fetch_of}
use Rattle.definition.specs.Refusal.{bad_cache}
use Rattle.definition.specs.Translate.{Caches, empty_caches, translate, cacheless}
use Rattle.definition.specs.Calls.{access, loading, testing, probing, flushing_all, flushing_code, flushing_page, flushing_frame}
use Rattle.definition.proofs.Replay.{Moment, watched, other, memory_at, after, after_all, answers_from, answers, watched_of, walks_of, In, Steady, Accepted}
use Rattle.definition.specs.declared.Registers.{Registers}
use Rattle.definition.specs.declared.Access.{Access}
use Rattle.definition.proofs.Choice.{if_both}
use Rattle.definition.proofs.Lists.{All, all_by, all_both, all_at, in_left, in_right, Paired, paired_by}
use Rattle.definition.proofs.Agree.{Throughout}
use Rattle.definition.proofs.Turns.{under, turns_of, after_turns, answers_through, Source, sources_in, starts_after, since_after, since_all, Made, made, Watch, watches_from, Suits, Fresh, Same, Allowed, Kept}
use Rattle.definition.proofs.Epochs.{Held, empty_held, held_answer, turns_held, walks_in, turns_answers, held_independent}

-- ---- a replay under one set of registers
module _ (g : Registers) where
  pub one_after : (c : Caches) (l : List Moment) → after_turns c (turns_of g l) ≡ after_all g c l
  unfolding after_turns after_all
  one_after c [] = refl
  one_after c (now ∷ rest) = one_after (after g c now) rest

  pub one_answers : (c : Caches) (l : List Moment) → answers_through c (turns_of g l) ≡ answers_from g c l
  unfolding answers_through answers_from
  one_answers c [] = refl
  one_answers c (watched a m ∷ rest) = rw (one_answers (after g c (watched a m)) rest)
  one_answers c (other call m ∷ rest) = one_answers (after g c (other call m)) rest

  one_walks : (c : Caches) (since : List Source) (l : List Moment) → walks_in (watches_from c since (turns_of g l)) ≡ walks_of g l
  unfolding watches_from walks_of
  one_walks c since [] = refl
  one_walks c since (watched a m ∷ rest) = rw (one_walks (after g c (watched a m)) (since_after since c (under g (watched a m))) rest)
  one_walks c since (other call m ∷ rest) = one_walks (after g c (other call m)) (since_after since c (under g (other call m))) rest

  one_watched : (c : Caches) (since : List Source) (l : List Moment)
      → map (λ (w : Watch). w.made.access) (watches_from c since (turns_of g l)) ≡ watched_of l
  unfolding watches_from watched_of
  one_watched c since [] = refl
  one_watched c since (watched a m ∷ rest) = rw (one_watched (after g c (watched a m)) (since_after since c (under g (watched a m))) rest)
  one_watched c since (other call m ∷ rest) = one_watched (after g c (other call m)) (since_after since c (under g (other call m))) rest

-- ---- its epochs
-- made under g, over a memory of P
pub record From (g : Registers) (P : Memory → Type 0) (s : Source) : Type 0 where
  pub registers : s.registers ≡ g
  pub memory : P s.memory

-- watched under g at one of the moments, after sources that are From
record Seen (g : Registers) (P : Memory → Type 0) (l : List Moment) (w : Watch) : Type 0 where
  registers : w.made.registers ≡ g
  moment : In (watched w.made.access w.made.memory) l
  since : All (From g P) w.since

module _ (g : Registers) (P : Memory → Type 0) where
  from_turn : (now : Moment) → P (memory_at now) → All (From g P) (sources_in (under g now))
  from_turn (watched a m) p = (record { registers = refl; memory = p }, tt)
  from_turn (other (access a) m) p = (record { registers = refl; memory = p }, tt)
  from_turn (other (loading code write address) m) p = (record { registers = refl; memory = p }, tt)
  from_turn (other (testing code write level address) m) p = tt
  from_turn (other (probing own instruction write address) m) p = tt
  from_turn (other flushing_all m) p = tt
  from_turn (other (flushing_code code mask) m) p = tt
  from_turn (other (flushing_page code mask address) m) p = tt
  from_turn (other (flushing_frame frame) m) p = tt

  from_since : (since : List Source) (c : Caches) (now : Moment) → P (memory_at now) → All (From g P) since → All (From g P) (since_after since c (under g now))
  unfolding since_after
  from_since since c now p h =
      if_both (All (From g P)) (starts_after c (under g now)) [] (sources_in (under g now) ++ since) tt
      (all_both (From g P) (sources_in (under g now)) since (from_turn now p) h)

  from_all : (since : List Source) (c : Caches) (l : List Moment) → ((now : Moment) → In now l → P (memory_at now)) → All (From g P) since
      → All (From g P) (since_all since c (turns_of g l))
  unfolding since_all
  from_all since c [] p h = h
  from_all since c (now ∷ rest) p h =
      from_all (since_after since c (under g now)) (after g c now) rest (λ n i. p n (inr i)) (from_since since c now (p now (inl refl)) h)

  seen_all : (whole : List Moment) (since : List Source) (c : Caches) (l : List Moment) → ((now : Moment) → In now l → In now whole)
      → ((now : Moment) → In now l → P (memory_at now)) → All (From g P) since → All (Seen g P whole) (watches_from c since (turns_of g l))
  unfolding watches_from
  seen_all whole since c [] part p h = tt
  seen_all whole since c (watched a m ∷ rest) part p h =
      let now = watched a m in (
        record { registers = refl; moment = part now (inl refl); since = h },
        seen_all whole (since_after since c (under g now)) (after g c now) rest (λ n i. part n (inr i)) (λ n i. p n (inr i))
            (from_since since c now (p now (inl refl)) h),
      )
  seen_all whole since c (other call m ∷ rest) part p h =
      let now = other call m in
      seen_all whole (since_after since c (under g now)) (after g c now) rest (λ n i. part n (inr i)) (λ n i. p n (inr i))
      (from_since since c now (p now (inl refl)) h)

  -- what is From suits an access whose longs read the same throughout P
  from_suits : (w : Made) → w.registers ≡ g → Throughout P w.memory (cacheless g w.access w.memory).asked
      → (l : List Source) → All (From g P) l → All (Suits w) l
  from_suits w e t l h =
      all_by (From g P) (Suits w)
      (λ s f. record { registers = f.registers ∙ sym e; reads = rw e (t s.memory f.memory) }) l h

  module _ (l : List Moment) (still : (a : Access) (m : Memory) → In (watched a m) l → Throughout P m (cacheless g a m).asked) where
    seen_fresh : (w : Watch) → Seen g P l w → Fresh w
    seen_fresh w h = from_suits w.made h.registers (still w.made.access w.made.memory h.moment) w.since h.since

  -- the law of one access after a run: from caches that hold what came of sources that are From
  pub after_run : (l : List Moment) → ((now : Moment) → In now l → P (memory_at now)) → (since : List Source) (c : Caches) → Held since c
      → All (From g P) since → (a : Access) (m : Memory) → Throughout P m (cacheless g a m).asked
      → (translate g a m (after_all g c l)).answer ≡ (cacheless g a m).answer
  after_run l p since c h f a m t =
      ap (λ (d : Caches). (translate g a m d).answer) (sym (one_after g c l))
      ∙ held_answer (since_all since c (turns_of g l)) (after_turns c (turns_of g l)) (turns_held since c (turns_of g l) h) (made g a m)
      (from_suits (made g a m) refl t (since_all since c (turns_of g l)) (from_all since c l p f))

-- ---- a run
-- a run whose memories are in P, where the longs of its watched accesses read the same throughout P, from caches that hold what came of such
pub record Run (g : Registers) (P : Memory → Type 0) (l : List Moment) (since : List Source) (c : Caches) : Type 0 where
  pub held : Held since c
  pub from : All (From g P) since
  pub over : (now : Moment) → In now l → P (memory_at now)
  pub still : (a : Access) (m : Memory) → In (watched a m) l → Throughout P m (cacheless g a m).asked

-- (A) of the one's watched accesses
seen_allowed : (g : Registers) (P : Memory → Type 0) (l all : List Moment) → ((now : Moment) → In now l → In now all) → Accepted g all
    → (w : Watch) → Seen g P l w → Allowed w
seen_allowed g P l all part t w h =
    rw h.registers (t.none w.made.access w.made.memory (part (watched w.made.access w.made.memory) h.moment))

module _ (g : Registers) (P : Memory → Type 0) (l : List Moment) (since : List Source) (c : Caches) (r : Run g P l since c) where
  abbrev watches : List Watch
  watches = watches_from c since (turns_of g l)

  run_seen : All (Seen g P l) watches
  run_seen = seen_all g P l since c l (λ n i. i) r.over r.from

  run_fresh : All Fresh watches
  run_fresh = all_by (Seen g P l) Fresh (seen_fresh g P l r.still) watches run_seen

  run_kept : (all : List Moment) → ((now : Moment) → In now l → In now all) → Accepted g all → Kept watches
  run_kept all part t = record { fresh = run_fresh; allowed = all_by (Seen g P l) Allowed (seen_allowed g P l all part t) watches run_seen }

  -- the law of a run: each watched access gets the cacheless walk's answer
  pub run_answers : answers_from g c l ≡ walks_of g l
  run_answers = sym (one_answers g c l) ∙ turns_answers since c (turns_of g l) r.held run_fresh ∙ one_walks g c since l

-- ---- from the empty caches
-- m is the memory of one of the moments
pub record Of (l : List Moment) (m : Memory) : Type 0 where
  pub now : Moment
  pub one : In now l
  pub is : memory_at now ≡ m

-- longs that read the same at each of the moments do so over their memories
pub still_of : (l : List Moment) (m : Memory) (asked : List ℕ)
    → ((now : Moment) (at : ℕ) → In now l → In at asked → fetch_of (memory_at now) at ≡ fetch_of m at) → Throughout (Of l) m asked
still_of l m asked s m' o at i = sym (rw o.is at (s o.now at o.one i))

-- each of the moments is one of them
pub of_all : (l : List Moment) (now : Moment) → In now l → Of l (memory_at now)
of_all l now i = record { now = now; one = i; is = refl }

-- check 4 passes after any moments whatever: no call of a replay is refused by it
pub passes_four_after : (g : Registers) (before : List Moment) → bad_cache (after_all g empty_caches before).c030 ≡ false
passes_four_after g before =
    subst (λ (c : Caches). bad_cache c.c030 ≡ false) (one_after g empty_caches before) (turns_held [] empty_caches (turns_of g before) empty_held).fit.four

-- after any moments whatever a watched access gets the cacheless walk's answer, if at each of them its longs read as they do now
pub after_anything : (g : Registers) (before : List Moment) (a : Access) (m : Memory)
    → ((now : Moment) (at : ℕ) → In now before → In at (cacheless g a m).asked → fetch_of (memory_at now) at ≡ fetch_of m at)
    → (translate g a m (after_all g empty_caches before)).answer ≡ (cacheless g a m).answer
after_anything g before a m s =
    after_run g (Of before) before (of_all before) [] empty_caches empty_held tt a m (still_of before m (cacheless g a m).asked s)

replay_run : (g : Registers) (l : List Moment) → Steady g l → Run g (Of l) l [] empty_caches
replay_run g l s =
    record {
      held = empty_held;
      from = tt;
      over = of_all l;
      still = λ a m i. still_of l m (cacheless g a m).asked (λ now at j k. s.same a m now at i j k);
    }

-- one replay: each watched access gets the cacheless walk's address, fault or refusal
pub watched_is_cacheless : (g : Registers) (l : List Moment) → Steady g l → answers g l ≡ walks_of g l
watched_is_cacheless g l s = run_answers g (Of l) l [] empty_caches (replay_run g l s)

-- ---- two replays
-- a part of a steady replay is steady
pub steady_left : (g : Registers) (l l' : List Moment) → Steady g (l ++ l') → Steady g l
steady_left g l l' s = record { same = λ a m now at i j k. s.same a m now at (in_left _ l l' i) (in_left _ l l' j) k }

pub steady_right : (g : Registers) (l l' : List Moment) → Steady g (l ++ l') → Steady g l'
steady_right g l l' s = record { same = λ a m now at i j k. s.same a m now at (in_right _ l l' i) (in_right _ l l' j) k }

-- (X) of one of each
same_seen : (g : Registers) (P P' : Memory → Type 0) (l l' : List Moment) → Steady g (l ++ l') → (w w' : Watch) → Seen g P l w → Seen g P' l' w'
    → w.made.access ≡ w'.made.access → Same w w'
same_seen g P P' l l' s w w' h h' k =
    record {
      access = k;
      registers = h.registers ∙ sym h'.registers;
      reads = λ at i.
          sym (s.same w.made.access w.made.memory (watched w'.made.access w'.made.memory) at (in_left _ l l' h.moment)
          (in_right _ l l' h'.moment) (rw h.registers at i));
    }

-- request 14's theorem, of two such runs
pub runs_alike : (g : Registers) (P P' : Memory → Type 0) (l l' : List Moment) (since since' : List Source) (c c' : Caches)
    → Run g P l since c → Run g P' l' since' c' → watched_of l ≡ watched_of l' → Steady g (l ++ l') → Accepted g (l ++ l')
    → (answers_from g c l ≡ answers_from g c' l') × (answers_from g c l ≡ walks_of g l)
runs_alike g P P' l l' since since' c c' r r' e s t =
    let ws = watches_from c since (turns_of g l) in
    let ws' = watches_from c' since' (turns_of g l') in
    let pairs : Paired Same ws ws' =
    paired_by Same (λ (w : Watch). w.made.access) (λ (w : Watch). w.made.access) ws ws'
    (one_watched g c since l ∙ e ∙ sym (one_watched g c' since' l'))
    (λ w w' i i' k.
    same_seen g P P' l l' s w w' (all_at (Seen g P l) ws w i (run_seen g P l since c r)) (all_at (Seen g P' l') ws' w' i' (run_seen g P' l' since' c' r')) k) in
    let d = held_independent since since' c c' r.held r'.held (turns_of g l) (turns_of g l')
    (run_kept g P l since c r (l ++ l') (λ now i. in_left now l l' i) t) (run_kept g P' l' since' c' r' (l ++ l') (λ now i. in_right now l l' i) t) pairs in
    (sym (one_answers g c l) ∙ d.0 ∙ one_answers g c' l', sym (one_answers g c l) ∙ d.1 ∙ one_walks g c since l)

-- the demand: two replays with the same watched accesses in the same order, where every long that their cacheless walks ask for reads the same
-- throughout both, and none is refused, give each the same address or fault: the cacheless walk's
pub independence : (g : Registers) (l l' : List Moment) → watched_of l ≡ watched_of l' → Steady g (l ++ l') → Accepted g (l ++ l')
    → (answers g l ≡ answers g l') × (answers g l ≡ walks_of g l)
independence g l l' e s t =
    runs_alike g (Of l) (Of l') l l' [] [] empty_caches empty_caches (replay_run g l (steady_left g l l' s)) (replay_run g l' (steady_right g l l' s)) e s t
