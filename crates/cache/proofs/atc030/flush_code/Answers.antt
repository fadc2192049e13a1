use Rattle.std.proofs.Common.{rules}
use Rattle.cache.proofs.Laws030.{flushed_code_lem}
use Rattle.cache.proofs.atc030.flush_code.Goals as goal

pub returns : goal.returns
returns c = flushed_code_lem _ (search rules) _ _ _ c.drop_tags.ensures
