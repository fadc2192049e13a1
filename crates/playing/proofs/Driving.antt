-- Bytes that move to the front of a buffer, and runs that follow each other over it. Assumes nothing.
use Rattle.std.proofs.Common.{◌≡◌, ℕ, ◌+◌, ◌-◌, ◌≤◌, ◌<◌, List, [], ◌++◌, Option, Some, Result, Ok, length, take, drop, false, append_assoc, append-nil, sym, ap, subst, ◌∙◌, arith}
use Rattle.std.proofs.Math.ListN.{length-drop, length-take}
use Rattle.std.proofs.Math.Seq.{drop-drop, take-add}
use Rattle.std.proofs.lemmas.List.{drop-take}
use Rattle.std.proofs.lemmas.List.Edits.{take-paste}
use Rattle.std.specs.List.{copy_within}
use Rattle.definition.specs.Words.{any_of}
use Rattle.definition.specs.Refusal.{crossed}
use Rattle.definition.specs.Trace.{State}
use Rattle.replay.specs.Playing.{ranges_of, Runs, none, more}
use Rattle.replay.specs.declared.Kept.{Kept}
use Rattle.streams.specs.Filled.{Filled}
use Rattle.playing.specs.Driving.{Plays, Went, Came}

pub none_kept : (k : Kept) → k.ranges.n ≡ 0 → any_of crossed (ranges_of k) ≡ false
unfolding any_of
none_kept k e = rw e

-- ---- the bytes from `at` on
module _ (at have : ℕ) (b : List ℕ) (h : at ≤ have) where
  pub rest_is : take (have - at) (drop at b) ≡ drop at (take have b)
  rest_is =
      let e : have ≡ at + (have - at) = omega arith in
      sym (drop-take at (have - at) b) ∙ ap (λ n. drop at (take n b)) (sym e)

  pub moved : have ≤ length b → take (have - at) (copy_within b at have 0) ≡ drop at (take have b)
  moved k =
      let e : 0 + (have - at) ≡ have - at = omega arith in
      subst (λ (n : ℕ). take n (copy_within b at have 0) ≡ take (have - at) (drop at b)) e (take-paste b 0 (drop at b) (have - at) (omega arith) (omega (arith, length-drop at b)))
      ∙ rest_is

-- ---- runs that follow each other
runs_then : (s s' : State) (b r t : List ℕ) {s'' : State} {r' t' : List ℕ} → Runs s b t s' r → Runs s' r t' s'' r' → Runs s b (t ++ t') s'' r'
runs_then s s' b r t x none = rw (append-nil t) x
runs_then s s' b r t x (more {t = t'} body rest k e m) = rw (← append_assoc t t' _) (more body rest (runs_then s s' b r t x k) e m)

plays_then : (s s' : State) (b r : List ℕ) {s'' : State} {r' : List ℕ} → Plays s b s' r → Plays s' r s'' r' → Plays s b s'' r'
plays_then s s' b r p q = record { printed = p.printed ++ q.printed; runs = runs_then s s' b r p.printed p.runs q.runs }

pub starts : (s : State) (b : List ℕ) → Plays s b s b
starts s b = record { printed = []; runs = none }

-- one run more, over the waiting bytes from `at` on
module _ (at have read : ℕ) (b : List ℕ) (h : at ≤ have) (k : have ≤ length b) where
  pub read_within : read ≤ length (take (have - at) (drop at b)) → at + read ≤ have
  read_within r = omega (arith, length-take (have - at) (drop at b))

  pub one_more : (s s' s'' : State) → Plays s (take have b) s' (drop at (take have b)) → Went s' (take (have - at) (drop at b)) s'' read
      → Plays s (take have b) s'' (drop (at + read) (take have b))
  one_more s s' s'' p w =
      let q = rw (rest_is at have b h, drop-drop) at w.plays in
      plays_then s s' (take have b) (drop at (take have b)) p q

-- what came with a read
module _ {E : Type 0} {got : Result (Option ℕ) E} {b b' : List ℕ} {have : ℕ} (f : Filled b have got b') (o : Option ℕ) (n : ℕ) (e : got ≡ Ok o) (i : o ≡ Some n) where
  pub grows : (have < n) × (n ≤ length b)
  grows = rw (e, i) at f.came

  pub came : {s s' : State} {rest : List ℕ} → Plays s (take n b') s' rest → Came s (take have b) s' rest
  came p =
      let k : have + (n - have) ≡ n = let g = grows in omega arith in
      record { came = take (n - have) (drop have b'); plays = rw (← f.stay, ← take-add have (n - have) b', k) p }
