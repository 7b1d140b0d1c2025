-- The law as it was proved.
use Rattle.store_laws.proofs.Entering.{unbuilt}
use Rattle.store_laws.proofs.laws.unbuilt_unended.Goals as goal

pub returns : goal.returns
returns c = unbuilt
