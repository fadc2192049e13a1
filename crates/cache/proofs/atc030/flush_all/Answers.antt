use Rattle.std.proofs.Common.{rules}
use Rattle.cache.proofs.Laws030.{flushed_all_lem}
use Rattle.cache.proofs.atc030.flush_all.Goals as goal

pub returns : goal.returns
returns c = flushed_all_lem _ (search rules) _ c.drop_tags.ensures
