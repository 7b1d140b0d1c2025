-- The law as it was proved.
use Rattle.blob_model.proofs.live.Reached.{reached_granted}
use Rattle.blob_model.proofs.laws.reached_are_granted.Goals as goal

pub returns : goal.returns
returns c = reached_granted
