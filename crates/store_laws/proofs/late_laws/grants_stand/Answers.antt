-- The law as it was proved.
use Rattle.store_laws.proofs.Granting.{grants_stand}
use Rattle.store_laws.proofs.late_laws.grants_stand.Goals as goal

pub returns : goal.returns
returns c = grants_stand
