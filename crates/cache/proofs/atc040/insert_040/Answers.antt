use Rattle.std.proofs.Common.{rules}
use Rattle.cache.proofs.Slots.{inserted_put_040}
use Rattle.cache.proofs.atc040.insert_040.Goals as goal

pub returns : goal.returns
returns c =
    inserted_put_040 _ c.told-c040 _ _ c.slot_of-i.ensures.0 _ _ _ _ _ _ _ c.key_of.ensures (search rules) (search rules)
