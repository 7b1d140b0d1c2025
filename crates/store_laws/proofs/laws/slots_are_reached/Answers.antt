-- The law as it was proved.
use Rattle.store_laws.proofs.Slots.{slot_reached}
use Rattle.store_laws.proofs.laws.slots_are_reached.Goals as goal

pub returns : goal.returns
returns c = slot_reached
