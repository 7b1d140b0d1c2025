-- The law as it was proved.
use Rattle.blob_model.proofs.live.Reached.{thin_stays}
use Rattle.blob_model.proofs.laws.thin_stays_for_room.Goals as goal

pub returns : goal.returns
returns c = thin_stays
