-- Single answers and refusals of the replay: of a record, of a run over a buffer, and of a whole trace in memory. Assumes nothing.
use Prim.Native.Nat.{ℕ, ◌+◌, ◌≤◌}
use mathlib.Core.Path.{◌≡◌, refl, ap, sym, subst, ◌∙◌}
use mathlib.Core.List.{List, [], ◌++◌}
use mathlib.Core.Logic.{◌⊎◌, inl, inr, ⊎_elim}
use native.Mathlib.Omega.{arith}
use lib.ListN.{length, take, drop, length-drop}
use lib.Seq.{sets, length-take-le}
use Rattle.std.specs.Prelude.{if◌then◌else◌}
use Rattle.definition.specs.Calls as calls
use Rattle.definition.specs.Trace.{State, Played as PlayedOf, Record, Front, Body, Short, Ended, front_of, record_of, is_malformed, step_of, text}
use Rattle.definition.proofs.Refusals.{step_leaves}
use Rattle.cache.specs.Pair.{SizedAll}
use Rattle.trace.specs.Lines.{line_in}
use Rattle.trace.specs.declared.Line.{Line}
use Rattle.trace.specs.declared.Line.TheVariants as line
use Rattle.replay.specs.Playing.{ranges_of, state_of, CalledIn, PlayedIn, Runs, none, more, Stops, Going, RanIn}
use Rattle.replay.specs.declared.Kept.{Kept}
use Rattle.replay.specs.declared.run.Why.{Why}
use Rattle.replay.specs.declared.run.Why.TheVariants as why
use Rattle.std.specs.Prelude.{Ok, Err}
use Rattle.whole.specs.Shown.{Shows}
use Rattle.whole.specs.declared.NoRoom.{NoRoom}
use Rattle.door_answers.proofs.Arrays.{same_arrays}

-- ---- a line is settled by the definition's
abbrev back : calls.Line → Line
back (calls.A address count) = Line.A address count
back (calls.F kind cause address count) = Line.F kind cause address count
back (calls.L count) = Line.L count
back (calls.T mmusr address count) = Line.T mmusr address count
back calls.K = Line.K
back calls.N = Line.N
back (calls.R n) = Line.R n

back_in : (l : Line) → back (line_in l) ≡ l
back_in (line.A address count) = refl
back_in (line.F kind cause address count) = refl
back_in (line.L count) = refl
back_in (line.T mmusr address count) = refl
back_in line.K = refl
back_in line.N = refl
back_in (line.R n) = refl

same_line : (l l' : Line) → line_in l ≡ line_in l' → l ≡ l'
same_line l l' e = sym (back_in l) ∙ ap back e ∙ back_in l'

-- ---- what the program keeps is settled by the definition's state: the registers, the longs, the ranges that count, and both arrays
pub record Alike (k k' : Kept) (l l' x x' y y' : List ℕ) : Type 0 where
  pub registers : k.registers ≡ k'.registers
  pub ranges : ranges_of k ≡ ranges_of k'
  pub longs : l ≡ l'
  pub array030 : x ≡ x'
  pub array040 : y ≡ y'

pub same_state : {k k' : Kept} {longs longs' x x' y y' : List ℕ} → SizedAll x y → SizedAll x' y' → state_of k longs x y ≡ state_of k' longs' x' y'
    → Alike k k' longs longs' x x' y y'
same_state w v e =
    let same = same_arrays w v (ap (λ (s : State). s.caches) e) in
    record {
      registers = ap (λ (s : State). s.registers) e;
      ranges = ap (λ (s : State). s.ranges) e;
      longs = ap (λ (s : State). s.longs) e;
      array030 = same.0;
      array040 = same.1;
    }

-- ---- a record
pub call_single : {c : calls.Called} {l l' : Line} {x x' y y' : List ℕ} → SizedAll x y → SizedAll x' y' → CalledIn c l x y → CalledIn c l' x' y'
    → (l ≡ l') × (x ≡ x') × (y ≡ y')
call_single {l = l} {l' = l'} w v a b =
    let same = same_arrays w v (a.leaves ∙ sym b.leaves) in
    (same_line l l' (a.prints ∙ sym b.prints), same.0, same.1)

pub record_single : {p : PlayedOf} {l l' : Line} {k k' : Kept} {longs longs' x x' y y' : List ℕ} → SizedAll x y → SizedAll x' y'
    → PlayedIn p l k longs x y → PlayedIn p l' k' longs' x' y' → (l ≡ l') × Alike k k' longs longs' x x' y y'
record_single {l = l} {l' = l'} w v a b =
    (same_line l l' (a.prints ∙ sym b.prints), same_state w v (a.leaves ∙ sym b.leaves))

-- a record that prints R n leaves all that the program keeps
pub record_keeps : {k k' : Kept} {longs longs' x x' y y' : List ℕ} (r : Record) (n : ℕ) {l : Line} → SizedAll x y → SizedAll x' y'
    → PlayedIn (step_of (state_of k longs x y) r) l k' longs' x' y' → l ≡ Line.R n → Alike k' k longs' longs x' x y' y
record_keeps {k} {longs = longs} {x = x} {y = y} r n w v p e =
    same_state v w (p.leaves ∙ step_leaves (state_of k longs x y) r n (sym p.prints ∙ ap line_in e))

-- ---- a run: where it stands, and one record more
record Place : Type 0 where
  state : State
  printed : List ℕ
  rest : List ℕ

abbrev place : State → List ℕ → List ℕ → Place
place s t r = record { state = s; printed = t; rest = r }

abbrev next_by : Place → Front → Place
next_by p (Body body rest) =
    if is_malformed (record_of body)
    then p
    else place (step_of p.state (record_of body)).state (p.printed ++ text (step_of p.state (record_of body)).line) rest
next_by p Short = p
next_by p Ended = p

abbrev next : Place → Place
next p = next_by p (front_of p.rest)

-- the second place is the first one, or comes after it
data Comes (p : Place) : Place → Type 0 where
  stays : Comes p p
  goes : {q : Place} → Comes p q → Comes p (next q)

runs_come : {s : State} {b : List ℕ} {s' : State} {t r : List ℕ} → Runs s b t s' r → Comes (place s [] b) (place s' t r)
runs_come none = stays
runs_come {s} {b = b} (more {t} {r} {s'} body rest k e m) = subst (Comes (place s [] b)) (rw (e, m) refl) (goes (runs_come k))

-- from a place the next one comes, or it is the second place itself
after_first : {p q : Place} → Comes p q → (p ≡ q) ⊎ Comes (next p) q
after_first stays = inl refl
after_first {p} (goes {q} c) = ⊎_elim (λ e. inr (subst (Comes (next p)) (ap next e) stays)) (λ d. inr (goes d)) (after_first c)

-- of two places that come after one, the one comes after the other
meet : {p q q' : Place} → Comes p q → Comes p q' → Comes q q' ⊎ Comes q' q
meet stays d = inl d
meet {q' = q'} (goes {q} c) d = ⊎_elim (λ h. ⊎_elim (λ e. inr (subst (Comes q') (ap next (sym e)) (goes stays))) inl (after_first h)) (λ h. inr (goes h)) (meet c d)

-- a run that is stuck comes to no other place
stuck : {p q : Place} → next p ≡ p → Comes p q → p ≡ q
stuck e stays = refl
stuck e (goes c) = sym e ∙ ap next (stuck e c)

-- no whole record is left, or the next one is malformed
pub data Over : Why → Type 0 where
  no_input : Over Why.Input
  malformed : Over Why.Malformed

module _ (s : State) (t rest out : List ℕ) (wrote : ℕ) where
  over : (w : Why) → Over w → Stops w rest out wrote → next (place s t rest) ≡ place s t rest
  over why.Input no_input (inl e) = rw e
  over why.Input no_input (inr e) = rw e
  over why.Malformed malformed h = rw (h.is, h.bad)
  over why.Room x h = elim x [ ]

-- and which of the two it is
apart : (f : Front) → (f ≡ Short) ⊎ (f ≡ Ended) → {body rest : List ℕ} → f ≡ Body body rest → ⊥
apart Ended (inl e) g = let z : ◌≡◌ {A = ℕ} 0 1 = cc in omega arith
apart Ended (inr e) g = let z : ◌≡◌ {A = ℕ} 0 1 = cc in omega arith
apart Short (inl e) g = let z : ◌≡◌ {A = ℕ} 0 1 = cc in omega arith
apart Short (inr e) g = let z : ◌≡◌ {A = ℕ} 0 1 = cc in omega arith
apart (Body body rest) (inl e) g = let z : ◌≡◌ {A = ℕ} 0 1 = cc in omega arith
apart (Body body rest) (inr e) g = let z : ◌≡◌ {A = ℕ} 0 1 = cc in omega arith

same_why : (rest out : List ℕ) (wrote wrote' : ℕ) (w w' : Why) → Over w → Over w' → Stops w rest out wrote → Stops w' rest out wrote' → w ≡ w'
same_why rest out wrote wrote' why.Input why.Input no_input no_input h h' = refl
same_why rest out wrote wrote' why.Malformed why.Malformed malformed malformed h h' = refl
same_why rest out wrote wrote' why.Input why.Malformed no_input malformed h h' = absurd (apart (front_of rest) h h'.is)
same_why rest out wrote wrote' why.Malformed why.Input malformed no_input h h' = absurd (apart (front_of rest) h' h.is)
same_why rest out wrote wrote' why.Input why.Room _ x h h' = elim x [ ]
same_why rest out wrote wrote' why.Malformed why.Room _ x h h' = elim x [ ]
same_why rest out wrote wrote' why.Room _ x _ h h' = elim x [ ]

-- what a run promises, of two runs that come to the same state
pub record SameRun (s s' : State) (read read' : ℕ) (out out' : List ℕ) (wrote wrote' : ℕ) (w w' : Why) : Type 0 where
  pub state : s ≡ s'
  pub reads : read ≡ read'
  pub output : out ≡ out'
  pub writes : wrote ≡ wrote'
  pub why : w ≡ w'

-- two results of a run over the same bytes that stopped where no whole record is left, or at a malformed one, are the same
pub run_single : {s s₁ s₂ : State} {b out out₁ out₂ : List ℕ} {read₁ read₂ wrote₁ wrote₂ : ℕ} {w₁ w₂ : Why} → RanIn s b out s₁ read₁ out₁ wrote₁ w₁
    → RanIn s b out s₂ read₂ out₂ wrote₂ w₂ → Over w₁ → Over w₂ → SameRun s₁ s₂ read₁ read₂ out₁ out₂ wrote₁ wrote₂ w₁ w₂
run_single {s} {s₁} {s₂} {b} {out} {out₁} {out₂} {read₁} {read₂} {wrote₁} {wrote₂} {w₁} {w₂} r₁ r₂ o₁ o₂ =
    go (⊎_elim (λ c. stuck (over s₁ g₁.printed (drop read₁ b) out wrote₁ w₁ o₁ r₁.stops) c)
    (λ c. sym (stuck (over s₂ g₂.printed (drop read₂ b) out wrote₂ w₂ o₂ r₂.stops) c)) (meet (runs_come g₁.runs) (runs_come g₂.runs)))
  where
    g₁ : Going s b out s₁ read₁ out₁ wrote₁
    g₁ = r₁.going

    g₂ : Going s b out s₂ read₂ out₂ wrote₂
    g₂ = r₂.going

    go : place s₁ g₁.printed (drop read₁ b) ≡ place s₂ g₂.printed (drop read₂ b) → SameRun s₁ s₂ read₁ read₂ out₁ out₂ wrote₁ wrote₂ w₁ w₂
    go e =
        let t : g₁.printed ≡ g₂.printed = ap (λ (p : Place). p.printed) e in
        let d : drop read₁ b ≡ drop read₂ b = ap (λ (p : Place). p.rest) e in
        record {
          state = ap (λ (p : Place). p.state) e;
          reads = omega (arith, ap length d, length-drop read₁ b, length-drop read₂ b, g₁.reads, g₂.reads);
          output = g₁.writes.stores ∙ ap (sets out 0) t ∙ sym g₂.writes.stores;
          writes = omega (arith, g₁.writes.ends, g₂.writes.ends, ap length t);
          why = same_why (drop read₁ b) out wrote₁ wrote₂ w₁ w₂ o₁ o₂ r₁.stops (subst (λ (l : List ℕ). Stops w₂ l out wrote₂) (sym d) r₂.stops);
        }

-- ---- a whole trace
-- the lines at the start of the output are the same, and so many
pub play_single : (lines out out' : List ℕ) (n n' : ℕ) → Shows lines out (Ok n) → Shows lines out' (Ok n')
    → (n ≡ n') × (take n out ≡ take n' out')
play_single lines out out' n n' a b =
    (omega (arith, length-take-le n out a.0, ap length a.1, length-take-le n' out' b.0, ap length b.1), a.1 ∙ sym b.1)

-- and there are no others where the lines and one line more have room
pub play_has_room : (lines out : List ℕ) (e : NoRoom) → length lines + 44 ≤ length out → Shows lines out (Err e) → ⊥
play_has_room lines out e h s = omega (arith, h, s)
