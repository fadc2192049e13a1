-- What the driver promises of the bytes that stand in its buffer: no record of them is lost, and none is played twice.
-- Which bytes a read brought, and that all of them are counted, is not said: no contract speaks of what standard input gives.
use Rattle.std.specs.Prelude.{ℕ, List, ◌++◌, take, drop, Result, OnOk}
use Rattle.definition.specs.Trace.{State}
use Rattle.replay.specs.Playing.{Runs, state_of}
use Rattle.playing.specs.declared.state.Replay.{Replay}
use Rattle.playing.specs.declared.state.Waiting.{Waiting}

-- the definition's state
abbrev pub state_in : Replay → State
state_in r = state_of r.kept r.longs r.c030 r.c040

-- the bytes that wait
abbrev pub bytes_in : Waiting → List ℕ
bytes_in w = take w.have w.buffer

-- records of b, one after the other from state s, leave state s' and the bytes `rest`
pub record Plays (s : State) (b : List ℕ) (s' : State) (rest : List ℕ) : Type 0 where
  pub printed : List ℕ
  pub runs : Runs s b printed s' rest

-- a run leaves the bytes from `read` on
pub record Went (s : State) (b : List ℕ) (s' : State) (read : ℕ) : Type 0 where
  pub plays : Plays s b s' (drop read b)

-- while the driver goes on, what is left of b waits at the front of the buffer
pub record Waits {E : Type 0} (r : Result Unit E) (s : State) (b : List ℕ) (s' : State) (rest : List ℕ) : Type 0 where
  pub plays : OnOk r (Plays s b s' rest)

-- after a read, what is left of b and of some bytes behind it, whichever they are
pub record Came (s : State) (b : List ℕ) (s' : State) (rest : List ℕ) : Type 0 where
  pub came : List ℕ
  pub plays : Plays s (b ++ came) s' rest

pub record Turned {E : Type 0} (r : Result Unit E) (s : State) (b : List ℕ) (s' : State) (rest : List ℕ) : Type 0 where
  pub comes : OnOk r (Came s b s' rest)
