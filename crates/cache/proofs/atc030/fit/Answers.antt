use Rattle.cache.proofs.Laws030.{shifted_same, shifted_put}
use Rattle.cache.proofs.atc030.fit.Goals as goal

pub returns-then-c030-shift : goal.returns-then-c030-shift
returns-then-c030-shift c = shifted_same _ c.told-c030 _ c.if-c030-shift.true

pub returns : goal.returns
returns c = shifted_put _ c.told-c030 _ _ c.if-c030-shift.false c.drop_tags.ensures
