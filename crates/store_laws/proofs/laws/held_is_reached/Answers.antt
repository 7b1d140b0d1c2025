-- The law as it was proved.
use Rattle.store_laws.proofs.Closing.{held_reached}
use Rattle.store_laws.proofs.laws.held_is_reached.Goals as goal

pub returns : goal.returns
returns c = held_reached
