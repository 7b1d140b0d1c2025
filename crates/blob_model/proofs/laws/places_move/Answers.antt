-- The law as it was proved.
use Rattle.blob_model.proofs.changes.Places.{places_move}
use Rattle.blob_model.proofs.laws.places_move.Goals as goal

pub returns : goal.returns
returns c = places_move
