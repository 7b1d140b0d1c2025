-- The law as it was proved.
use Rattle.store_laws.proofs.LateLists.{heads_are_granted}
use Rattle.store_laws.proofs.late_laws.heads_are_granted.Goals as goal

pub returns : goal.returns
returns c = heads_are_granted
