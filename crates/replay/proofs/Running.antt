-- A run: what stands at a place of the buffer, one record more, and why it stops. Assumes nothing.
use Prim.Native.Nat.{ℕ, suc, ◌+◌, ◌-◌, ◌*◌, ◌≤◌, ◌<◌}
use mathlib.Core.Path.{◌≡◌, refl, ap, sym, ◌∙◌}
use mathlib.Core.List.{List, [], ◌∷◌, ◌++◌, append_assoc}
use mathlib.Core.Bool.{true, false}
use mathlib.Core.Logic.{◌⊎◌, inl, inr}
use native.Mathlib.Omega.{arith}
use borrow.Author.Tests.{le-leb, lt-leb}
use lib.ListN.{length, get_or, take, drop, length-drop}
use lib.Seq.{drop-drop, take_all}
use Rattle.std.specs.Prelude.{Result, Ok}
use Rattle.definition.specs.Trace.{State, Short, Ended, front_of, Record, Calls, record_of, is_malformed, step_of, text, play_from}
use Rattle.definition.proofs.Files.{plays_on}
use Rattle.trace.specs.Lines.{line_in, Wrote}
use Rattle.trace.specs.Records.{call_in, record_in}
use Rattle.trace.specs.declared.Line.{Line}
use Rattle.trace.specs.declared.Call.{Call}
use Rattle.trace.specs.declared.Malformed.{Malformed as Bad}
use Rattle.trace.specs.declared.Record.{Record as Said}
use Rattle.trace.proofs.Writes.{nothing, then, same_length, next_near}
use Rattle.replay.specs.declared.Kept.{Kept}
use Rattle.replay.specs.declared.run.Why.{Why}
use Rattle.replay.specs.Playing.{state_of, PlayedIn, Runs, none, more, Stands, Going, RanIn}

-- ---- what stands first
pub front_few : (l : List ℕ) → length l < 2 → (front_of l ≡ Short) ⊎ (front_of l ≡ Ended)
unfolding front_of
front_few [] h = inr refl
front_few (x ∷ []) h = inl refl
front_few (x ∷ y ∷ l) h = absurd (omega arith)

module _ (n : ℕ) where
  pub front_cut : (l : List ℕ) → 2 ≤ length l → n ≡ get_or l 0 0 * 256 + get_or l 1 0 → length (drop 2 l) < n → front_of l ≡ Short
  unfolding front_of
  front_cut [] size is h = absurd (omega arith)
  front_cut (x ∷ []) size is h = absurd (omega arith)
  front_cut (high ∷ low ∷ rest) size is h = rw (← is, lt-leb n (length rest) h) refl

  pub front_whole : (l : List ℕ) → 2 ≤ length l → n ≡ get_or l 0 0 * 256 + get_or l 1 0 → n ≤ length (drop 2 l)
      → Stands l (take n (drop 2 l)) (drop n (drop 2 l))
  unfolding front_of
  front_whole [] size is h = absurd (omega arith)
  front_whole (x ∷ []) size is h = absurd (omega arith)
  front_whole (high ∷ low ∷ rest) size is h =
      let e : length (high ∷ low ∷ rest) - length (drop n rest) ≡ suc (suc n) = omega (arith, length-drop n rest) in
      record {
        front = rw (← is, le-leb n (length rest) h) refl;
        rest = rw e refl;
        shorter = omega (arith, length-drop n rest);
      }

-- the slice behind the first two bytes
pub tail : (l : List ℕ) → take (length l - 2) (drop 2 l) ≡ drop 2 l
tail l = take_all (length l - 2) (drop 2 l) (omega (arith, length-drop 2 l))

-- so it does behind the first `read` bytes
pub behind : (b : List ℕ) {body after : List ℕ} (read : ℕ) → read ≤ length b → Stands (drop read b) body after
    → after ≡ drop (length b - length after) b
behind b {body} {after} read h f =
    let e : read + (length (drop read b) - length after) ≡ length b - length after = omega (arith, f.shorter, length-drop read b) in
    f.rest ∙ rw (drop-drop, e) refl

-- ---- a record, once it is told apart
pub said_call : {x : Result Said Bad} {r : Record} {c : Call} → record_in x ≡ r → x ≡ Ok (Said.Call c) → Calls (call_in c) ≡ r
said_call e t = sym (ap record_in t) ∙ e

-- ---- a run goes on
pub begins : (s : State) (b out : List ℕ) → Going s b out s 0 out 0
begins s b out = record { printed = []; most = 0; runs = none; writes = nothing out 0; reads = omega arith; fits = omega arith }

module _ (s : State) (b out : List ℕ) (s' : State) {read wrote : ℕ} {out' : List ℕ} (g : Going s b out s' read out' wrote) where
  module _ {body after : List ℕ} (f : Stands (drop read b) body after) where
    -- one record more
    pub goes_on : {next : ℕ} {l : Line} {k : Kept} {longs c030 c040 out'' : List ℕ} → is_malformed (record_of body) ≡ false
        → PlayedIn (step_of s' (record_of body)) l k longs c030 c040 → wrote + 44 ≤ length out' → Wrote 44 out' wrote (text (line_in l)) out'' next
        → Going s b out (state_of k longs c030 c040) (length b - length after) out'' next
    goes_on {next} {l} m p room w =
        record {
          printed = g.printed ++ text (line_in l);
          most = g.most + 44;
          runs = rw (p.leaves, p.prints, ← behind b read g.reads f) (more body after g.runs f.front m);
          writes = (then) g.writes w;
          reads = omega arith;
          fits = omega (arith, next_near w, same_length g.writes, g.fits);
        }

    pub stops_malformed : is_malformed (record_of body) ≡ true → RanIn s b out s' read out' wrote Why.Malformed
    stops_malformed m = record { going = g; stops = record { body = body; after = after; is = f.front; bad = m } }

  -- ---- why it stops
  pub stops_room : length out - wrote < 44 → RanIn s b out s' read out' wrote Why.Room
  stops_room h = record { going = g; stops = omega (arith, g.fits) }

  pub stops_input : (front_of (drop read b) ≡ Short) ⊎ (front_of (drop read b) ≡ Ended) → RanIn s b out s' read out' wrote Why.Input
  stops_input e = record { going = g; stops = e }

-- ---- runs are the definition's: what is left plays on from where they stopped
pub runs_play : (s : State) (b : List ℕ) {t r : List ℕ} {s' : State} → Runs s b t s' r → play_from s b ≡ t ++ play_from s' r
runs_play s b none = refl
runs_play s b (more {t} {r} {s'} body rest k e m) =
    runs_play s b k ∙ ap (λ (x : List ℕ). t ++ x) (plays_on s' r body rest e m) ∙ sym (append_assoc t _ _)
