use Rattle.audit.proofs.Saying as law
use Rattle.audit.proofs.telling.access_for.Goals as goal

pub returns : goal.returns
returns c = law.access_is c.args.g c.args.x c.args.write c.address_for-address.ensures c.code_for-code.ensures c.bit-supervisor.ensures
