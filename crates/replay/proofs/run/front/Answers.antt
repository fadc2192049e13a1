use Rattle.std.proofs.Common.{inl}
use Rattle.replay.proofs.Running as law
use Rattle.replay.proofs.run.front.Goals as goal

pub returns-in_default-clause-none : goal.returns-in_default-clause-none
returns-in_default-clause-none c = law.front_few _ c.in_default.len_below

pub returns-then-rest-n-clause-none : goal.returns-then-rest-n-clause-none
returns-then-rest-n-clause-none c =
    inl (law.front_cut _ _ c.in-len2-up.len_at_least c.from_be_bytes-length.ensures (rw (law.tail _) at c.if-rest-n.true))

pub returns-clause-whole : goal.returns-clause-whole
returns-clause-whole c =
    rw (c.split_at.ensures.front, c.split_at.ensures.back, law.tail c.args.bytes.now)
    (law.front_whole _ _ c.in-len2-up.len_at_least c.from_be_bytes-length.ensures (rw (law.tail _) at c.if-rest-n.false))
