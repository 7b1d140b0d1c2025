-- Each session is computed.
use Rattle.std.proofs.Common.{[], ◌∷◌, refl}
use Rattle.blob_model.specs.RowsStored.{past_memory, stored_left, disk_full, memory_full, store_failed, long_page, long_page_failed}
use Rattle.blob_model.proofs.tested.Sessions.{all_legal}
use Rattle.blob_model.proofs.rows.stored_are_legal.Goals as goal

pub returns : goal.returns
returns c = all_legal (past_memory ∷ stored_left ∷ disk_full ∷ memory_full ∷ store_failed ∷ long_page ∷ long_page_failed ∷ []) refl
