-- The law as it was proved.
use Rattle.store_laws.proofs.Parting.{recipes_stand}
use Rattle.store_laws.proofs.laws.recipes_stand.Goals as goal

pub returns : goal.returns
returns c = recipes_stand
