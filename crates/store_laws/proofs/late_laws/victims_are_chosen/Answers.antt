-- The law as it was proved.
use Rattle.store_laws.proofs.LateLists.{victims_are_chosen}
use Rattle.store_laws.proofs.late_laws.victims_are_chosen.Goals as goal

pub returns : goal.returns
returns c = victims_are_chosen
