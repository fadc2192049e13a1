use Rattle.search.proofs.Searching as law
use Rattle.search.proofs.page_found.Goals as goal

pub returns : goal.returns
returns c = law.page_is _ _ _ _ _ _ _ c.cache_unless.ensures c.permitted.ensures
