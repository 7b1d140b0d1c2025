-- The law as it was proved.
use Rattle.store_laws.proofs.Building.{listed_are_there}
use Rattle.store_laws.proofs.laws.listed_are_there.Goals as goal

pub returns : goal.returns
returns c = listed_are_there
