-- Each session is computed.
use Rattle.std.proofs.Common.{[], ◌∷◌, refl}
use Rattle.blob_model.specs.RowsUpload.{upload}
use Rattle.blob_model.proofs.tested.Sessions.{all_legal}
use Rattle.blob_model.proofs.rows.upload_are_legal.Goals as goal

pub returns : goal.returns
returns c = all_legal (upload ∷ []) refl
