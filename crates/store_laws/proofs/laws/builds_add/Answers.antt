-- The law as it was proved.
use Rattle.store_laws.proofs.Building.{builds_add}
use Rattle.store_laws.proofs.laws.builds_add.Goals as goal

pub returns : goal.returns
returns c = builds_add
