use Rattle.std.proofs.Common.{ne_eqb, arith}
use Rattle.cache.specs.Atc030.{clock_in, used_stamps}
use Rattle.cache.proofs.atc030.stamp.Goals as goal

pub returns-in-Some : goal.returns-in-Some
unfolding used_stamps
returns-in-Some c =
    let h = c.in-Some.ensures in
    rw (ne_eqb (clock_in c.args.c030.now) 18446744073709551615 (λ e. omega (arith, h.0, e)), ← h.1) c.put.ensures
