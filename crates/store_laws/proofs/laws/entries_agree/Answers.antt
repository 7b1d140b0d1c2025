-- The law as it was proved.
use Rattle.store_laws.proofs.Agreeing.{agrees}
use Rattle.store_laws.proofs.laws.entries_agree.Goals as goal

pub returns : goal.returns
returns c = agrees
