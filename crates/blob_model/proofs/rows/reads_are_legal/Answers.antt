-- Each session is computed.
use Rattle.std.proofs.Common.{[], ◌∷◌, refl}
use Rattle.blob_model.specs.RowsReads.{short_reads, slices, cuts, one_piece_stays, viewed_twice}
use Rattle.blob_model.proofs.tested.Sessions.{all_legal}
use Rattle.blob_model.proofs.rows.reads_are_legal.Goals as goal

pub returns : goal.returns
returns c = all_legal (short_reads ∷ slices ∷ cuts ∷ one_piece_stays ∷ viewed_twice ∷ []) refl
