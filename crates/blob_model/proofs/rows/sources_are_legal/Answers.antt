-- Each session is computed.
use Rattle.std.proofs.Common.{[], ◌∷◌, refl}
use Rattle.blob_model.specs.RowsSources.{file_changes, blob_urls, data_handle}
use Rattle.blob_model.proofs.tested.Sessions.{all_legal}
use Rattle.blob_model.proofs.rows.sources_are_legal.Goals as goal

pub returns : goal.returns
returns c = all_legal (file_changes ∷ blob_urls ∷ data_handle ∷ []) refl
