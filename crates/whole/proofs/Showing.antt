-- A trace's lines in a buffer: the last line, the records' lines, and the version's line before them. Assumes nothing.
use Prim.Native.Nat.{ℕ, ◌+◌, ◌-◌, ◌≤◌, ◌<◌}
use mathlib.Core.Path.{◌≡◌, refl, ap, sym, subst, ◌∙◌}
use mathlib.Core.List.{List, [], ◌∷◌, ◌++◌}
use mathlib.Core.Logic.{◌⊎◌, inl, inr}
use native.Mathlib.Omega.{arith}
use borrow.Author.Tests.{ne_eqb, eq-eqb}
use lib.ListN.{length, get_or, take, drop, replicate, length-append, length-drop}
use lib.Seq.{take-append-le, take-append-add, take_all}
use Rattle.definition.specs.Trace.{State, Short, Ended, front_of, first_registers, first_state, play_from, opening, play}
use Rattle.definition.proofs.Files.{not_ended, plays_bad, plays_short, plays_ended}
use Rattle.trace.specs.Lines.{Wrote, Put}
use Rattle.trace.proofs.Writes.{next_near, same_length, front}
use Rattle.cache.specs.Packed.{part}
use Rattle.cache.specs.Atc030.{entries_of, cache_of}
use Rattle.cache.specs.Atc040.{slots_of, cache040_of}
use Rattle.replay.specs.Playing.{state_of, Bad, RanIn}
use Rattle.replay.specs.declared.Kept.{Kept}
use Rattle.replay.proofs.Running.{runs_play}
use Rattle.replay.specs.declared.run.Why.{Why}
use Rattle.replay.specs.declared.run.Why.TheVariants as why
use Rattle.std.specs.Prelude.{Result, Ok, Err, IsErr}
use Rattle.whole.specs.Shown.{Shows, refused, finished, Closes}
use Rattle.whole.specs.declared.NoRoom.{NoRoom}

-- ---- one line
-- a line was written where there was room
pub put : {most at next : ℕ} {old new bytes : List ℕ} → Put most old at bytes new next → at + most ≤ length old → Shows (take at old ++ bytes) new (Ok next)
put p h =
    let w = p.room h in
    (omega (arith, same_length w, h, next_near w), front w (omega (arith, h, next_near w)))

-- there was no room
pub none_shown : (lines out : List ℕ) (r : Result ℕ NoRoom) → IsErr r → length out < length lines + 44 → Shows lines out r
none_shown lines out (Ok n) i h = let z : ◌≡◌ {A = ℕ} 0 1 = cc in absurd (omega arith)
none_shown lines out (Err e) i h = h

-- ---- the last line
no_record : (s : State) (rest : List ℕ) → (front_of rest ≡ Short) ⊎ (front_of rest ≡ Ended) → play_from s rest ≡ finished (length rest)
no_record s [] e = plays_ended s
no_record s (x ∷ l) (inl e) = rw (ne_eqb (length (x ∷ l)) 0 (λ z. absurd (omega arith))) (plays_short s (x ∷ l) e)
no_record s (x ∷ l) (inr e) = absurd (not_ended x l e)

bad_record : (s : State) (rest : List ℕ) → Bad rest → play_from s rest ≡ refused
bad_record s rest k = plays_bad s rest k.body k.after k.is k.bad

-- ---- the records' lines
module _ {b out out' : List ℕ} {s' : State} {read wrote : ℕ} {w : Why} (r : RanIn first_state b out s' read out' wrote w) where
  -- what the run wrote, and how the rest plays
  so_far : play_from first_state b ≡ take wrote out' ++ play_from s' (drop read b)
  so_far =
      runs_play first_state b r.going.runs
      ∙ ap (λ (t : List ℕ). t ++ play_from s' (drop read b)) (sym (front r.going.writes r.going.fits))

pub closed : (w : Why) {b out out' : List ℕ} (out'' : List ℕ) {s' : State} {read wrote : ℕ} → RanIn first_state b out s' read out' wrote w
    → length out'' ≡ length out' → (p : Result ℕ NoRoom) → Closes w (length b - read) out' wrote out'' p → Shows (play_from first_state b) out'' p
closed why.Input {b} out'' {s' = s'} {read = read} r e p h =
    rw (so_far r, no_record s' (drop read b) r.stops, length-drop read b) h
closed why.Malformed {b} out'' {s' = s'} {read = read} r e p h = rw (so_far r, bad_record s' (drop read b) r.stops) h
closed why.Room {b} out'' {s' = s'} {read = read} r e p h =
    rw (h, runs_play first_state b r.going.runs)
    (omega (arith, r.stops, e, same_length r.going.writes, r.going.writes.ends, length-append r.going.printed (play_from s' (drop read b))))

-- what is kept at the start, with arrays of zeros, is the state that a replay starts from
started : (k : Kept) → k.registers ≡ first_registers → k.ranges.n ≡ 0
    → state_of k (replicate 8192 0) (replicate 69 0) (replicate 128 0) ≡ first_state
unfolding part entries_of cache_of slots_of cache040_of
started k e f = rw (e, f)

pub from_start : (k : Kept) → (k.registers ≡ first_registers) × (k.ranges.n ≡ 0) → {b out out' : List ℕ} {s' : State} {read wrote : ℕ} {w : Why}
    → RanIn (state_of k (replicate 8192 0) (replicate 69 0) (replicate 128 0)) b out s' read out' wrote w
    → RanIn first_state b out s' read out' wrote w
from_start k (e, f) {b} {out} {out'} {s'} {read} {wrote} {w} h =
    subst (λ (s : State). RanIn s b out s' read out' wrote w) (started k e f) h

-- ---- the version
pub play_empty : (b : List ℕ) → length b < 1 → play b ≡ refused
unfolding play
play_empty [] e = refl
play_empty (x ∷ b) e = absurd (omega arith)

pub play_other : (b : List ℕ) → (get_or b 0 0 ≡ 1 → ⊥) → play b ≡ refused
unfolding play
play_other [] h = refl
play_other (x ∷ b) h = rw (ne_eqb x 1 h)

play_good : (b : List ℕ) → get_or b 0 0 ≡ 1 → play b ≡ opening ++ play_from first_state (drop 1 b)
unfolding play
play_good [] e = absurd (omega arith)
play_good (x ∷ b) e = rw (eq-eqb x 1 e)

-- the whole of a slice from its second element on
tail_whole : (b : List ℕ) → take (length b - 1) (drop 1 b) ≡ drop 1 b
tail_whole b = take_all (length b - 1) (drop 1 b) (omega (arith, length-drop 1 b))

-- the version's line is written
three_bytes : {next : ℕ} {old new : List ℕ} → Wrote 3 old 0 opening new next → 3 ≤ length old → take 3 new ≡ opening
three_bytes w room = rw w.ends at (front w (omega (arith, w.ends)))

module _ (b : List ℕ) (one : get_or b 0 0 ≡ 1) (ys : List ℕ) (p : Result ℕ NoRoom) (s : Shows (play_from first_state (take (length b - 1) (drop 1 b))) ys p) where
  -- the records' lines stand behind it
  pub behind_version : {next : ℕ} {old new : List ℕ} (rest : List ℕ) (n : ℕ) → Wrote 3 old 0 opening new next → 3 ≤ length old
      → p ≡ Ok n → Shows (play b) (take 3 new ++ (ys ++ rest)) (Ok (n + 3))
  behind_version rest n w room e =
      let h = rw (e, tail_whole b) at s in
      let m : n + 3 ≡ 3 + n = omega arith in
      rw (play_good b one, three_bytes w room, m) (
        omega (arith, h.0, length-append ys rest),
        take-append-add opening (ys ++ rest) n
            ∙ ap (λ (l : List ℕ). opening ++ l) (take-append-le n ys rest h.0 ∙ h.1),
      )

  -- there was no room for them
  pub no_room_behind : (out : List ℕ) → length out ≡ 3 + length ys → {e : NoRoom} → p ≡ Err e → length out < length (play b) + 44
  no_room_behind out k e =
      let h = rw (e, tail_whole b) at s in
      rw (play_good b one) (omega (arith, h, k))
