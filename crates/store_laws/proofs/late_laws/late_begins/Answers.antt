-- The law as it was proved.
use Rattle.store_laws.proofs.LateStands.{late_begins}
use Rattle.store_laws.proofs.late_laws.late_begins.Goals as goal

pub returns : goal.returns
returns c = late_begins
