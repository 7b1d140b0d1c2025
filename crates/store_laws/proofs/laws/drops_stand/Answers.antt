-- The law as it was proved.
use Rattle.store_laws.proofs.Dropped.{drops_stand}
use Rattle.store_laws.proofs.laws.drops_stand.Goals as goal

pub returns : goal.returns
returns c = drops_stand
