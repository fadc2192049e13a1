use Rattle.std.proofs.Common.{◌<◌, ◌-◌}
use Rattle.cache.specs.Atc030.{tags_of, stamps_of}
use Rattle.cache.proofs.Victim.{Seen}
use Rattle.cache.proofs.atc030.place.Given as goal

abbrev pub invariant-loop-invalid : goal.invariant-loop-invalid
invariant-loop-invalid l = (l.i < 22) × Seen (tags_of l.c030) (stamps_of l.c030) l.key l.i l.invalid l.oldest l.low

abbrev pub decreases-loop-invalid : goal.decreases-loop-invalid
decreases-loop-invalid l = 21 - l.i
