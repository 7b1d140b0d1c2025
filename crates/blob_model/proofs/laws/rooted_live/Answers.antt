-- The law as it was proved.
use Rattle.blob_model.proofs.live.Least.{rooted_live}
use Rattle.blob_model.proofs.laws.rooted_live.Goals as goal

pub returns : goal.returns
returns c = rooted_live
