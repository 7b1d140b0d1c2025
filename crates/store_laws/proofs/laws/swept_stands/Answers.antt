-- The law as it was proved.
use Rattle.store_laws.proofs.SweptStand.{swept_stands}
use Rattle.store_laws.proofs.laws.swept_stands.Goals as goal

pub returns : goal.returns
returns c = swept_stands
