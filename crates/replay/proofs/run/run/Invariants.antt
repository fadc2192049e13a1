use Rattle.std.proofs.Common.{◌≡◌, ◌-◌, ◌≤◌, length, drop}
use Rattle.definition.specs.Words.{any_of}
use Rattle.definition.specs.Refusal.{crossed}
use Rattle.replay.specs.Playing.{ranges_of, state_of, Going}
use Rattle.replay.proofs.run.run.Given as goal

abbrev pub invariant-loop-out : goal.invariant-loop-out
invariant-loop-out l =
    record {
      longs_stay : length l.longs ≡ length l.fn.longs;
      out_stays : length l.out ≡ length l.fn.out;
      left : length l.rest ≤ length l.input;
      behind : l.rest ≡ drop (length l.input - length l.rest) l.input;
      fits : l.wrote ≤ length l.fn.out;
      crosses : l.any_crossed ≡ any_of crossed (ranges_of l.now);
      going : Going (state_of l.fn.kept l.fn.longs l.fn.c030 l.fn.c040) l.input l.fn.out (state_of l.now l.longs l.c030 l.c040)
          (length l.input - length l.rest) l.out l.wrote;
    }

abbrev pub decreases-loop-out : goal.decreases-loop-out
decreases-loop-out l = length l.rest
