-- Each session is computed.
use Rattle.std.proofs.Common.{[], ◌∷◌, refl}
use Rattle.blob_model.specs.RowsPaging.{page_job, page_unread, page_failed, page_left, job_lost}
use Rattle.blob_model.proofs.tested.Sessions.{all_legal}
use Rattle.blob_model.proofs.rows.paging_are_legal.Goals as goal

pub returns : goal.returns
returns c = all_legal (page_job ∷ page_unread ∷ page_failed ∷ page_left ∷ job_lost ∷ []) refl
