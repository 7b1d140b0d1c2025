-- The law as it was proved.
use Rattle.store_laws.proofs.Staying.{values_stay}
use Rattle.store_laws.proofs.laws.values_stay.Goals as goal

pub returns : goal.returns
returns c = values_stay
