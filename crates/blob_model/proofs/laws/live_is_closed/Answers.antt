-- The law as it was proved.
use Rattle.blob_model.proofs.live.Closed.{live_closed}
use Rattle.blob_model.proofs.laws.live_is_closed.Goals as goal

pub returns : goal.returns
returns c = live_closed
