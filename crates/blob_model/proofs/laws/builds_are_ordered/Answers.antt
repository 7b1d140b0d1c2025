-- The law as it was proved.
use Rattle.blob_model.specs.History.{start}
use Rattle.blob_model.proofs.kept.Groups.{kept_start, kept_from}
use Rattle.blob_model.proofs.laws.builds_are_ordered.Goals as goal

pub returns : goal.returns
returns c s groups legal = (kept_from s start groups (kept_start s) legal).ordered
