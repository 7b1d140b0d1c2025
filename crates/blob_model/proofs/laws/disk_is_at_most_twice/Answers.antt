-- The law as it was proved.
use Rattle.blob_model.proofs.live.Reached.{at_most_twice}
use Rattle.blob_model.proofs.laws.disk_is_at_most_twice.Goals as goal

pub returns : goal.returns
returns c = at_most_twice
