-- The law as it was proved.
use Rattle.blob_model.proofs.settled.Groups.{settled_after}
use Rattle.blob_model.proofs.laws.settled_after_each.Goals as goal

pub returns : goal.returns
returns c = settled_after
