-- The law as it was proved.
use Rattle.store_laws.proofs.Removing.{removals_stand}
use Rattle.store_laws.proofs.late_laws.removals_stand.Goals as goal

pub returns : goal.returns
returns c = removals_stand
