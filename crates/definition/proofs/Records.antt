-- A trace's records, from the program's first state: none is refused by check 4, and they are a replay in the sense of demand 3.
-- Assumes nothing but what the statements say.
use Prim.Native.Nat.{ℕ}
use mathlib.Core.Path.{◌≡◌, refl, ap, sym, ◌∙◌}
use mathlib.Core.List.{List, [], ◌∷◌, ◌++◌, map}
use mathlib.Core.Bool.{true, false}
use mathlib.Core.Logic.{inl, inr}
use native.Mathlib.Omega.{arith}
use lib.Dec.{eqb}
use lib.ListN.{length}
use Rattle.definition.specs.Memory.{Memory}
use Rattle.definition.specs.Refusal.{Checks, refusal_of, bad_cache}
use Rattle.definition.specs.Translate.{Caches, empty_caches, translate_checks, translate}
use Rattle.definition.specs.Load.{load_checks, load}
use Rattle.definition.specs.Test.{test_checks, test}
use Rattle.definition.specs.Probe.{probe_checks, probe}
use Rattle.definition.specs.Flush.{Flushed, flush_unless, flush_all, flush_code, flush_page, flush_frame}
use Rattle.definition.specs.Audit.{audit}
use Rattle.definition.specs.Calls.{Call, access, loading, testing, probing, flushing_all, flushing_code, flushing_page, flushing_frame, Line, R, translation_line, flush_line, calling}
use Rattle.definition.specs.Trace.{Record, Loads, Calls, Stores, Adds, Malformed, State, memory_of, Played, keeping, step_of, first_state, lines_from}
use Rattle.definition.proofs.Replay.{after_all, answers_from, watched_of, walks_of, In, Steady, Accepted, CleanSnapshot, Since}
use Rattle.definition.proofs.Marked.{kept_after, warmed, Marked, watching, plainly, record_in, moment_in, moments_of, turn_in, turns_from, is_call, Under, uncounted, watched_lines, prints}
use Rattle.definition.specs.declared.Registers.{Registers}
use Rattle.definition.specs.declared.Access.{Access}
use Rattle.definition.specs.declared.Audit.{Audit}
use Rattle.definition.specs.declared.Translation.{Translation}
use Rattle.definition.specs.declared.Translation.TheVariants.{Address, Fault, Refused}
use Rattle.definition.specs.declared.Flush.{Flush}
use Rattle.definition.proofs.Choice.{if_both}
use Rattle.definition.proofs.Entries.{Fit, empty_fit, calling_fit}
use Rattle.definition.proofs.Refusals.{numbers, in_translation, translate_refuses, translation_refused, in_load, load_refuses, load_refused, in_test, test_refuses, test_refused, in_probe, probe_refuses, probe_refused, in_flush, flush_refuses, flush_refused, in_line, record_refuses}
use Rattle.definition.proofs.Lists.{All, Paired}
use Rattle.definition.proofs.Turns.{Turn, under, turns_of, after_turn, after_turns, answers_through, watches_of, Same, Allowed, Kept, ChangesFlushed}
use Rattle.definition.proofs.Epochs.{walks_in, epochs}
use Rattle.definition.proofs.Flushes.{registers_change}
use Rattle.definition.proofs.Independence.{one_after, one_answers, independence}
use Rattle.definition.proofs.Audited.{clean_run, clean_independence}

-- ---- check 4
-- whatever the registers and the memory were, the caches stay as they can be
kept_fit : (k : Checks) (s next : State) → Fit s.caches → Fit next.caches → Fit (keeping k s next).state.caches
kept_fit k s next h n = if_both (λ (p : Played). Fit p.state.caches) (eqb (refusal_of k) 0) _ _ n h

pub step_fit : (s : State) (r : Record) → Fit s.caches → Fit (step_of s r).state.caches
unfolding step_of
step_fit s (Loads g) h = kept_fit _ s _ h h
step_fit s (Calls call) h = calling_fit s.registers (memory_of s) s.caches h call
step_fit s (Stores address value) h = kept_fit _ s _ h h
step_fit s (Adds range) h = kept_fit _ s _ h h
step_fit s Malformed h = h

pub the_number : (n k : ℕ) → k ∷ [] ≡ numbers n → k ≡ n
the_number n k = if_both (λ (l : List ℕ). k ∷ [] ≡ l → k ≡ n) (eqb n 0) [] (n ∷ []) (λ e. absurd (no_number e)) (λ e. cc)
  where
    no_number : k ∷ [] ≡ [] → ⊥
    no_number e = let z : ◌≡◌ {A = ℕ} 0 1 = cc in omega arith

-- no check but 4 gives number 4
abbrev Other : ℕ → Type 0
Other n = 4 ≡ n → ⊥

other_number : (k : Checks) → k.four ≡ false → Other (refusal_of k)
unfolding refusal_of
other_number k e =
    rw e
    (if_both Other k.one 1 _ (λ e. omega arith)
    (if_both Other k.six 6 _ (λ e. omega arith)
    (if_both Other k.five 5 _ (λ e. omega arith)
    (if_both Other k.two 2 _ (λ e. omega arith)
    (if_both Other k.three 3 _ (λ e. omega arith)
    (if_both Other k.eight 8 0 (λ e. omega arith) (λ e. omega arith)))))))

not_four : (k : Checks) → k.four ≡ false → 4 ∷ [] ≡ numbers (refusal_of k) → ⊥
not_four k four e = other_number k four (the_number (refusal_of k) 4 e)

flush_not_four : (k : Checks) (c : Caches) (done : Flushed) → done.answer ≡ Flush.Flushed → k.four ≡ false → flush_line (flush_unless k c done).answer ≡ R 4 → ⊥
flush_not_four k c done is four e = not_four k four (ap in_flush (sym (flush_refused 4 (flush_unless k c done).answer e)) ∙ flush_refuses k c done is)

call_not_four : (g : Registers) (m : Memory) (c : Caches) → bad_cache c.c030 ≡ false → (call : Call) → (calling g m c call).line ≡ R 4 → ⊥
unfolding calling flush_all flush_code flush_page flush_frame
call_not_four g m c b (access a) e =
    let t = translate g a m c in
    not_four (translate_checks g a m c) b
    (ap in_translation (sym (translation_refused 4 (length t.asked) t.answer e)) ∙ translate_refuses g m a c)
call_not_four g m c b (loading code write address) e =
    let l = load g code write address m c in
    not_four (load_checks g code m c) b
    (ap in_load (sym (load_refused 4 (length l.asked) l.answer e)) ∙ load_refuses g code write address m c)
call_not_four g m c b (testing code write level address) e =
    let t = test g code write level address m in
    not_four (test_checks g code level m) refl
    (ap in_test (sym (test_refused 4 (length t.asked) t.answer e)) ∙ test_refuses g code write level address m)
call_not_four g m c b (probing own instruction write address) e =
    not_four (probe_checks g c) b
    (ap in_probe (sym (probe_refused 4 (probe g own instruction write address c) e)) ∙ probe_refuses g own instruction write address c)
call_not_four g m c b flushing_all e = flush_not_four _ c _ refl b e
call_not_four g m c b (flushing_code code mask) e = flush_not_four _ c _ refl b e
call_not_four g m c b (flushing_page code mask address) e = flush_not_four _ c _ refl b e
call_not_four g m c b (flushing_frame frame) e = flush_not_four _ c _ refl refl e

own_not_four : (k : Checks) (s next : State) → k.four ≡ false → (keeping k s next).line ≡ R 4 → ⊥
own_not_four k s next four e = not_four k four (ap in_line (sym e) ∙ record_refuses k s next)

step_not_four : (s : State) (r : Record) → Fit s.caches → (step_of s r).line ≡ R 4 → ⊥
unfolding step_of
step_not_four s (Loads g) h e = own_not_four _ s _ refl e
step_not_four s (Calls call) h e =
    call_not_four s.registers (memory_of s) s.caches h.four call e
step_not_four s (Stores address value) h e = own_not_four _ s _ refl e
step_not_four s (Adds range) h e = own_not_four _ s _ refl e
step_not_four s Malformed h e = let z : ◌≡◌ {A = ℕ} 7 4 = cc in omega arith

lines_not_four : (s : State) (l : List Record) → Fit s.caches → In (R 4) (lines_from s l) → ⊥
unfolding lines_from
lines_not_four s [] h x'' = elim x'' [ ]
lines_not_four s (r ∷ l) h (inl e) = step_not_four s r h (sym e)
lines_not_four s (r ∷ l) h (inr i) = lines_not_four (step_of s r).state l (step_fit s r h) i

-- no trace prints R 4, whichever registers it loads
pub never_four : (l : List Record) → In (R 4) (lines_from first_state l) → ⊥
never_four l = lines_not_four first_state l empty_fit

-- ---- records as turns
turns_both : (c : Caches) (l l' : List Turn) → after_turns c (l ++ l') ≡ after_turns (after_turns c l) l'
unfolding after_turns
turns_both c [] l' = refl
turns_both c (t ∷ l) l' = turns_both (after_turn c t) l l'

-- a record that is not watched adds no answer
plain_answers : (c : Caches) (s : State) (r : Record) (l : List Turn)
    → answers_through c (turn_in (plainly r) s ++ l) ≡ answers_through (after_turns c (turn_in (plainly r) s)) l
unfolding answers_through after_turns
plain_answers c s (Loads h) l = refl
plain_answers c s (Calls call) l = refl
plain_answers c s (Stores address value) l = refl
plain_answers c s (Adds range) l = refl
plain_answers c s Malformed l = refl

own_caches : (k : Checks) (s next : State) → next.caches ≡ s.caches → (keeping k s next).state.caches ≡ s.caches
own_caches k s next e = if_both (λ (p : Played). p.state.caches ≡ s.caches) (eqb (refusal_of k) 0) _ _ e refl

-- a record leaves the caches that its turn leaves
step_caches : (s : State) (k : Marked) → (step_of s (record_in k)).state.caches ≡ after_turns s.caches (turn_in k s)
unfolding step_of after_turns calling
step_caches s (watching a) = refl
step_caches s (plainly (Calls call)) = refl
step_caches s (plainly (Loads h)) = own_caches _ s _ refl
step_caches s (plainly (Stores address value)) = own_caches _ s _ refl
step_caches s (plainly (Adds range)) = own_caches _ s _ refl
step_caches s (plainly Malformed) = refl

-- the caches that a trace leaves are those of its turns
pub kept_turns : (s : State) (l : List Marked) → (kept_after s (map record_in l)).caches ≡ after_turns s.caches (turns_from s l)
unfolding kept_after turns_from after_turns
kept_turns s [] = refl
kept_turns s (k ∷ rest) =
    let next = (step_of s (record_in k)).state in
    kept_turns next rest
    ∙ ap (λ (c : Caches). after_turns c (turns_from next rest)) (step_caches s k)
    ∙ sym (turns_both s.caches (turn_in k s) (turns_from next rest))

uncounted_line : (count : ℕ) (t : Translation) → uncounted (translation_line count t) ≡ translation_line 0 t
uncounted_line count (Address address) = refl
uncounted_line count (Fault kind cause address) = refl
uncounted_line count (Refused n) = refl

access_line : (s : State) (a : Access)
    → uncounted (step_of s (Calls (access a))).line ≡ translation_line 0 (translate s.registers a (memory_of s) s.caches).answer
unfolding step_of calling
access_line s a = let t = translate s.registers a (memory_of s) s.caches in uncounted_line (length t.asked) t.answer

-- and what the watched accesses print are the answers of its turns
pub prints_turns : (s : State) (l : List Marked) → prints s l ≡ map (translation_line 0) (answers_through s.caches (turns_from s l))
unfolding lines_from watched_lines turns_from answers_through after_turns
prints_turns s [] = refl
prints_turns s (watching a ∷ rest) =
    let next = (step_of s (Calls (access a))).state in
    rw (access_line s a, prints_turns next rest, ap (λ (c : Caches). answers_through c (turns_from next rest)) (step_caches s (watching a)))
prints_turns s (plainly r ∷ rest) =
    let next = (step_of s r).state in
    prints_turns next rest
    ∙ ap (λ (c : Caches). map (translation_line 0) (answers_through c (turns_from next rest))) (step_caches s (plainly r))
    ∙ ap (map (translation_line 0)) (sym (plain_answers s.caches s r (turns_from next rest)))

-- what the watched accesses of two traces print, by the answers of their turns
turns_alike : (s s' : State) (l l' : List Marked) (walks : List Translation)
    → (answers_through s.caches (turns_from s l) ≡ answers_through s'.caches (turns_from s' l')) × (answers_through s.caches (turns_from s l) ≡ walks)
    → (prints s l ≡ prints s' l') × (prints s l ≡ map (translation_line 0) walks)
turns_alike s s' l l' walks d =
    let one = prints_turns s l in
    (one ∙ ap (map (translation_line 0)) d.0 ∙ sym (prints_turns s' l'), one ∙ ap (map (translation_line 0)) d.1)

-- request 14, of two traces from the program's first state, whose registers are loaded at any place: what each watched access prints, the count left out,
-- is the same in both, and is what the cacheless walk gives with the registers and tables of its moment
pub traces_epochs : (l l' : List Marked) → Kept (watches_of (turns_from first_state l)) → Kept (watches_of (turns_from first_state l'))
    → Paired Same (watches_of (turns_from first_state l)) (watches_of (turns_from first_state l'))
    → (prints first_state l ≡ prints first_state l') × (prints first_state l ≡ map (translation_line 0) (walks_in (watches_of (turns_from first_state l))))
traces_epochs l l' k k' p =
    turns_alike first_state first_state l l' (walks_in (watches_of (turns_from first_state l))) (epochs (turns_from first_state l) (turns_from first_state l') k k' p)

-- and in the request's own words
pub traces_change : (l l' : List Marked) → ChangesFlushed empty_caches (turns_from first_state l) → ChangesFlushed empty_caches (turns_from first_state l')
    → Paired Same (watches_of (turns_from first_state l)) (watches_of (turns_from first_state l'))
    → All Allowed (watches_of (turns_from first_state l)) → All Allowed (watches_of (turns_from first_state l'))
    → (prints first_state l ≡ prints first_state l') × (prints first_state l ≡ map (translation_line 0) (walks_in (watches_of (turns_from first_state l))))
traces_change l l' h h' p t t' =
    turns_alike first_state first_state l l' (walks_in (watches_of (turns_from first_state l)))
    (registers_change (turns_from first_state l) (turns_from first_state l') h h' p t t')

-- ---- records as moments, under one set of registers
map_both : {X Y : Type 0} (f : X → Y) (l l' : List X) → map f (l ++ l') ≡ map f l ++ map f l'
map_both f [] l' = refl
map_both f (x ∷ l) l' = ap (λ (r : List _). f x ∷ r) (map_both f l l')

module _ (g : Registers) where
  under_turn : (s : State) (k : Marked) → (is_call (record_in k) ≡ true → s.registers ≡ g) → turn_in k s ≡ turns_of g (moment_in k (memory_of s))
  under_turn s (watching a) u = rw (u refl)
  under_turn s (plainly (Calls call)) u = rw (u refl)
  under_turn s (plainly (Loads h)) u = refl
  under_turn s (plainly (Stores address value)) u = refl
  under_turn s (plainly (Adds range)) u = refl
  under_turn s (plainly Malformed) u = refl

  under_turns : (s : State) (l : List Marked) → Under g s l → turns_from s l ≡ turns_of g (moments_of s l)
  unfolding turns_from moments_of Under
  under_turns s [] u = refl
  under_turns s (k ∷ rest) u =
      rw (under_turn s k u.0, under_turns (step_of s (record_in k)).state rest u.1)
      (sym (map_both (under g) (moment_in k (memory_of s)) (moments_of (step_of s (record_in k)).state rest)))

  -- the caches that a trace leaves are those of the replay
  pub kept_caches : (s : State) (l : List Marked) → Under g s l → (kept_after s (map record_in l)).caches ≡ after_all g s.caches (moments_of s l)
  kept_caches s l u = kept_turns s l ∙ ap (after_turns s.caches) (under_turns s l u) ∙ one_after g s.caches (moments_of s l)

  -- and what the watched accesses print are the answers of the replay
  pub prints_answers : (s : State) (l : List Marked) → Under g s l → prints s l ≡ map (translation_line 0) (answers_from g s.caches (moments_of s l))
  prints_answers s l u =
      prints_turns s l
      ∙ ap (λ (t : List Turn). map (translation_line 0) (answers_through s.caches t)) (under_turns s l u)
      ∙ ap (map (translation_line 0)) (one_answers g s.caches (moments_of s l))

-- what the watched accesses of two traces print, by the answers of their replays
prints_alike : (g : Registers) (s s' : State) (l l' : List Marked) → Under g s l → Under g s' l'
    → (answers_from g s.caches (moments_of s l) ≡ answers_from g s'.caches (moments_of s' l')) × (answers_from g s.caches (moments_of s l) ≡ walks_of g (moments_of s l))
    → (prints s l ≡ prints s' l') × (prints s l ≡ map (translation_line 0) (walks_of g (moments_of s l)))
prints_alike g s s' l l' u u' d =
    let one = prints_answers g s l u in
    (one ∙ ap (map (translation_line 0)) d.0 ∙ sym (prints_answers g s' l' u'), one ∙ ap (map (translation_line 0)) d.1)

-- the demand, of two traces from the program's first state, all of whose calls are made under g: what each watched access prints, the count left
-- out, is the same in both, and is what its cacheless walk gives
pub traces_independent : (g : Registers) (l l' : List Marked) → Under g first_state l → Under g first_state l'
    → watched_of (moments_of first_state l) ≡ watched_of (moments_of first_state l')
    → Steady g (moments_of first_state l ++ moments_of first_state l') → Accepted g (moments_of first_state l ++ moments_of first_state l')
    → (prints first_state l ≡ prints first_state l') × (prints first_state l ≡ map (translation_line 0) (walks_of g (moments_of first_state l)))
traces_independent g l l' u u' e s t =
    prints_alike g first_state first_state l l' u u' (independence g (moments_of first_state l) (moments_of first_state l') e s t)

-- ---- a trace whose first part warms the caches
-- the lines of both parts, one after the other
pub lines_both : (s : State) (l l' : List Record) → lines_from s (l ++ l') ≡ lines_from s l ++ lines_from (kept_after s l) l'
unfolding lines_from kept_after
lines_both s [] l' = refl
lines_both s (r ∷ l) l' = ap (λ (x : List Line). (step_of s r).line ∷ x) (lines_both (step_of s r).state l l')

kept_after_fit : (s : State) (l : List Record) → Fit s.caches → Fit (kept_after s l).caches
unfolding kept_after
kept_after_fit s [] h = h
kept_after_fit s (r ∷ l) h = kept_after_fit (step_of s r).state l (step_fit s r h)

-- its audit says Clean: whatever the records were, the caches have their 22 entries
warmed_snapshot : (g : Registers) (warm : List Record) → audit g (memory_of (warmed warm)) (warmed warm).caches ≡ Audit.Clean
    → CleanSnapshot g (memory_of (warmed warm)) (warmed warm).caches
warmed_snapshot g warm e = record { size = (kept_after_fit first_state warm empty_fit).size; clean = e }

-- where the caches that the first part leaves are audited clean, each watched access of the second prints what its cacheless walk gives
pub warmed_is_cacheless : (g : Registers) (warm : List Record) (l : List Marked) → audit g (memory_of (warmed warm)) (warmed warm).caches ≡ Audit.Clean
    → Under g (warmed warm) l → Since g (memory_of (warmed warm)) (moments_of (warmed warm) l) → Steady g (moments_of (warmed warm) l)
    → prints (warmed warm) l ≡ map (translation_line 0) (walks_of g (moments_of (warmed warm) l))
warmed_is_cacheless g warm l e u since s =
    prints_answers g (warmed warm) l u
    ∙ ap (map (translation_line 0))
    (clean_run g (memory_of (warmed warm)) (warmed warm).caches (warmed_snapshot g warm e) (moments_of (warmed warm) l) since s)

-- the demand, of two such traces
pub warmed_independent : (g : Registers) (warm warm' : List Record) (l l' : List Marked)
    → audit g (memory_of (warmed warm)) (warmed warm).caches ≡ Audit.Clean → audit g (memory_of (warmed warm')) (warmed warm').caches ≡ Audit.Clean
    → Under g (warmed warm) l → Under g (warmed warm') l' → watched_of (moments_of (warmed warm) l) ≡ watched_of (moments_of (warmed warm') l')
    → Since g (memory_of (warmed warm)) (moments_of (warmed warm) l) → Since g (memory_of (warmed warm')) (moments_of (warmed warm') l')
    → Steady g (moments_of (warmed warm) l ++ moments_of (warmed warm') l') → Accepted g (moments_of (warmed warm) l ++ moments_of (warmed warm') l')
    → (prints (warmed warm) l ≡ prints (warmed warm') l') × (prints (warmed warm) l ≡ map (translation_line 0) (walks_of g (moments_of (warmed warm) l)))
warmed_independent g warm warm' l l' e e' u u' w since since' s t =
    prints_alike g (warmed warm) (warmed warm') l l' u u'
    (clean_independence g (memory_of (warmed warm)) (memory_of (warmed warm')) (warmed warm).caches (warmed warm').caches
    (warmed_snapshot g warm e) (warmed_snapshot g warm' e') (moments_of (warmed warm) l) (moments_of (warmed warm') l') w since since' s t)
