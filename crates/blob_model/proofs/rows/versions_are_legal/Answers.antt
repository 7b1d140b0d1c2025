-- Each session is computed.
use Rattle.std.proofs.Common.{[], ◌∷◌, refl}
use Rattle.blob_model.specs.RowsVersions.{waiting_lost, waiting_failed, waiting_on}
use Rattle.blob_model.proofs.tested.Sessions.{all_legal}
use Rattle.blob_model.proofs.rows.versions_are_legal.Goals as goal

pub returns : goal.returns
returns c = all_legal (waiting_lost ∷ waiting_failed ∷ waiting_on ∷ []) refl
