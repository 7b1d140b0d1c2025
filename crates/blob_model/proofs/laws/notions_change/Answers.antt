-- The laws as they were proved.
use Rattle.blob_model.proofs.changes.Notions.{change_laws}
use Rattle.blob_model.proofs.laws.notions_change.Goals as goal

pub returns : goal.returns
returns c = change_laws
