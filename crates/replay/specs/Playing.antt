-- What the replay keeps is the definition's state; what one record and a run over a buffer promise.
use Rattle.std.specs.Prelude.{ℕ, ◌+◌, ◌-◌, ◌/◌, ◌≤◌, ◌<◌, ◌≡◌, Bool, true, false, List, [], ◌++◌, ◌⊎◌, length, drop, set}
use Rattle.std.specs.Prelude.{if◌then◌else◌}
use Rattle.definition.specs.Memory.{Memory}
use Rattle.definition.specs.Refusal.{bad_store}
use Rattle.definition.specs.Translate.{Caches}
use Rattle.definition.specs.Calls as calls
use Rattle.definition.specs.Trace.{State, Played, Body, Short, Ended, front_of, record_of, is_malformed, step_of, text}
use Rattle.definition.specs.declared.Range.{Range}
use Rattle.definition.specs.declared.Registers.{Registers}
use Rattle.trace.specs.Lines.{line_in, Wrote}
use Rattle.trace.specs.declared.Line.{Line}
use Rattle.memory.specs.Kept.{ranges_in}
use Rattle.cache.specs.Pair.{caches_of}
use Rattle.translate.specs.Stages.{translate_given}
use Rattle.load.specs.Loaded.{load_given}
use Rattle.test.specs.Tested.{test_given}
use Rattle.replay.specs.declared.Kept.{Kept}
use Rattle.replay.specs.declared.run.Why.{Why}
use Rattle.replay.specs.declared.run.Why.TheVariants as why

-- the ranges that are kept
abbrev pub ranges_of : Kept → List Range
ranges_of k = ranges_in k.ranges

abbrev pub state_of : Kept → List ℕ → List ℕ → List ℕ → State
state_of k longs c030 c040 =
    record { registers = k.registers; longs = longs; ranges = ranges_of k; caches = caches_of c030 c040 }

-- a call's line, with the arrays after it
pub record CalledIn (c : calls.Called) (l : Line) (c030 c040 : List ℕ) : Type 0 where
  pub prints : line_in l ≡ c.line
  pub leaves : caches_of c030 c040 ≡ c.caches

-- a call with what the caller says of check 3, that a range is crossed; with the true word it is the call (`given_calling`)
unfoldable pub calling_given : Bool → Registers → Memory → Caches → calls.Call → calls.Called
calling_given crossed g m c (calls.access a) = calls.of_translated (translate_given crossed g a m c)
calling_given crossed g m c (calls.loading code write address) = calls.of_loaded (load_given crossed g code write address m c)
calling_given crossed g m c (calls.testing code write level address) = calls.of_tested c (test_given crossed g code write level address m)
calling_given crossed g m c (calls.probing own instruction write address) = calls.calling g m c (calls.probing own instruction write address)
calling_given crossed g m c calls.flushing_all = calls.calling g m c calls.flushing_all
calling_given crossed g m c (calls.flushing_code code mask) = calls.calling g m c (calls.flushing_code code mask)
calling_given crossed g m c (calls.flushing_page code mask address) = calls.calling g m c (calls.flushing_page code mask address)
calling_given crossed g m c (calls.flushing_frame frame) = calls.calling g m c (calls.flushing_frame frame)

-- a PTEST's line, whatever the caches are, which stay
pub record Tests (crossed : Bool) (g : Registers) (m : Memory) (code : ℕ) (write : Bool) (level address : ℕ) (l : Line) : Type 0 where
  pub prints : (c : Caches) → line_in l ≡ (calling_given crossed g m c (calls.testing code write level address)).line
  pub leaves : (c : Caches) → c ≡ (calling_given crossed g m c (calls.testing code write level address)).caches

-- a store's line, with the longs after it
pub record StoredIn (longs : List ℕ) (address value : ℕ) (l : Line) (longs' : List ℕ) : Type 0 where
  pub prints : line_in l ≡ (if bad_store longs address then calls.R 2 else calls.K)
  pub leaves : longs' ≡ (if bad_store longs address then longs else set longs (address / 4) value)

-- a record's line, with what is kept after it
pub record PlayedIn (p : Played) (l : Line) (k : Kept) (longs c030 c040 : List ℕ) : Type 0 where
  pub prints : line_in l ≡ p.line
  pub leaves : state_of k longs c030 c040 ≡ p.state

-- records of b, one after the other from state s: they print t and leave state s' and the bytes r
pub data Runs (s : State) (b : List ℕ) : List ℕ → State → List ℕ → Type 0 where
  none : Runs s b [] s b
  more : {t r : List ℕ} {s' : State} (body rest : List ℕ) → Runs s b t s' r → front_of r ≡ Body body rest → is_malformed (record_of body) ≡ false
      → Runs s b (t ++ text (step_of s' (record_of body)).line) (step_of s' (record_of body)).state rest

-- a whole record stands first: its body, and the bytes behind it, of which there are fewer
pub record Stands (b body after : List ℕ) : Type 0 where
  pub front : front_of b ≡ Body body after
  pub rest : after ≡ drop (length b - length after) b
  pub shorter : length after < length b

-- the next record is malformed
pub record Bad (rest : List ℕ) : Type 0 where
  pub body : List ℕ
  pub after : List ℕ
  pub is : front_of rest ≡ Body body after
  pub bad : is_malformed (record_of body) ≡ true

-- why a run stopped: no whole record is left, or the next one is malformed, or there is no room for a line
abbrev pub Stops : Why → List ℕ → List ℕ → ℕ → Type 0
Stops why.Input rest out wrote = (front_of rest ≡ Short) ⊎ (front_of rest ≡ Ended)
Stops why.Malformed rest out wrote = Bad rest
Stops why.Room rest out wrote = length out < wrote + 44

-- a run from state s over the bytes b: what it printed stands at the front of the output, and the bytes from `read` on are left
pub record Going (s : State) (b out : List ℕ) (s' : State) (read : ℕ) (out' : List ℕ) (wrote : ℕ) : Type 0 where
  pub printed : List ℕ
  pub most : ℕ
  pub runs : Runs s b printed s' (drop read b)
  pub writes : Wrote most out 0 printed out' wrote
  pub reads : read ≤ length b
  pub fits : wrote ≤ length out

pub record RanIn (s : State) (b out : List ℕ) (s' : State) (read : ℕ) (out' : List ℕ) (wrote : ℕ) (w : Why) : Type 0 where
  pub going : Going s b out s' read out' wrote
  pub stops : Stops w (drop read b) out wrote
