use Rattle.std.proofs.Common.{rules}
use Rattle.cache.proofs.Flags.{shifted_out}
use Rattle.cache.proofs.atc030.page_at.Goals as goal

pub returns : goal.returns
returns c = shifted_out _ _ c.if-shift-lt32.false (search rules)
