-- The law as it was proved.
use Rattle.blob_model.proofs.changes.Places.{changes_add}
use Rattle.blob_model.proofs.laws.changes_add.Goals as goal

pub returns : goal.returns
returns c s h answer before = changes_add s h answer before
