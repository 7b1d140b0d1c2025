-- The law as it was proved.
use Rattle.blob_model.proofs.live.Least.{live_is_least}
use Rattle.blob_model.proofs.laws.live_is_least.Goals as goal

pub returns : goal.returns
returns c = live_is_least
