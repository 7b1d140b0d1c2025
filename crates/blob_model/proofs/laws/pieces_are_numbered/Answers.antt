-- The law as it was proved.
use Rattle.blob_model.specs.Builds.{builds}
use Rattle.blob_model.specs.Pieces.{pieces}
use Rattle.blob_model.proofs.builds.PieceNumbers.{pieces_numbered, numbers_range}
use Rattle.blob_model.proofs.laws.pieces_are_numbered.Goals as goal

pub returns : goal.returns
returns c page h = numbers_range 0 (pieces page h) (pieces_numbered page 0 (builds page h))
