use Rattle.std.proofs.Common.{rules}
use Rattle.cache.proofs.Laws030.{flushed_none, flushed_page_lem}
use Rattle.cache.proofs.atc030.flush_page.Goals as goal

pub returns-then-shift-eq0 : goal.returns-then-shift-eq0
returns-then-shift-eq0 c = flushed_none _ (search rules) _ _ _ c.if-shift-eq0.true

pub returns : goal.returns
returns c = flushed_page_lem _ (search rules) _ _ _ _ _ c.if-shift-eq0.false c.page_at.ensures c.drop_tags.ensures
