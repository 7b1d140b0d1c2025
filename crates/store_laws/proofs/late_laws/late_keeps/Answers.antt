-- The law as it was proved.
use Rattle.store_laws.proofs.ReachesFollow.{late_keeps}
use Rattle.store_laws.proofs.late_laws.late_keeps.Goals as goal

pub returns : goal.returns
returns c = late_keeps
