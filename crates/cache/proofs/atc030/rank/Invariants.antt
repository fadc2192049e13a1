use Rattle.std.proofs.Common.{ℕ, ltb}
use Rattle.definition.specs.Words.{count_of}
use Rattle.cache.specs.Atc030.{recent_in, clock_in, shift_in, tags_of, pages_of, stamps_of, Parts}
use Rattle.cache.proofs.Lists.{map_to}
use Rattle.cache.proofs.atc030.rank.Given as goal

abbrev pub invariant-loop-i : goal.invariant-loop-i
invariant-loop-i l =
    Parts l.c030 (tags_of l.fn.c030) (pages_of l.fn.c030) (map_to (λ (x : ℕ). count_of (λ (y : ℕ). ltb y x) (stamps_of l.fn.c030)) l.i (stamps_of l.fn.c030)) (recent_in l.fn.c030) (clock_in l.fn.c030) (shift_in l.fn.c030)
