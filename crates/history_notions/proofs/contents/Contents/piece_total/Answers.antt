-- All pieces, counted blob by blob.
use Rattle.std.proofs.Common.{List, length, ap, ◌∙◌}
use Rattle.blob_model.specs.Builds.{builds}
use Rattle.blob_model.specs.Pieces.{Piece}
use Rattle.blob_model.specs.Session.{page_limit}
use Rattle.history_notions.proofs.PieceNumbers.{total_pieces}
use Rattle.history_notions.proofs.contents.Contents.piece_total.Goals as goal

pub returns : goal.returns
returns c = λ s h follows. c.len.ensures ∙ ap (length {A = Piece}) follows.pieces_are ∙ total_pieces (page_limit s) 0 (builds (page_limit s) h)
