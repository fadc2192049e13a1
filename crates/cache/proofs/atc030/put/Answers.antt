use Rattle.cache.proofs.Parts.{parts_of, put_recent, put_clock, put_stamp}
use Rattle.cache.proofs.atc030.put.Goals as goal

pub returns : goal.returns
returns c = put_recent (put_stamp (put_clock (parts_of _ c.told-c030) _) _ _ c.requires) _
