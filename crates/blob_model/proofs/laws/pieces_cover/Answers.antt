-- The law as it was proved.
use Rattle.blob_model.proofs.live.Closed.{cover_pieces}
use Rattle.blob_model.proofs.laws.pieces_cover.Goals as goal

pub returns : goal.returns
returns c = cover_pieces
