-- Each session is computed.
use Rattle.std.proofs.Common.{[], ◌∷◌, refl}
use Rattle.blob_model.specs.RowsCompaction.{moved, move_unread, move_failed, no_room, nothing_left}
use Rattle.blob_model.proofs.tested.Sessions.{all_legal}
use Rattle.blob_model.proofs.rows.compaction_are_legal.Goals as goal

pub returns : goal.returns
returns c = all_legal (moved ∷ move_unread ∷ move_failed ∷ no_room ∷ nothing_left ∷ []) refl
