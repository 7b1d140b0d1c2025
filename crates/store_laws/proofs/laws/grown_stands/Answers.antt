-- The law as it was proved.
use Rattle.store_laws.proofs.Building.{grown_stands}
use Rattle.store_laws.proofs.laws.grown_stands.Goals as goal

pub returns : goal.returns
returns c = grown_stands
