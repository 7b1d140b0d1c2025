-- The law as it was proved.
use Rattle.store_laws.proofs.Compactions.{compactions_stand}
use Rattle.store_laws.proofs.late_laws.compactions_stand.Goals as goal

pub returns : goal.returns
returns c = compactions_stand
