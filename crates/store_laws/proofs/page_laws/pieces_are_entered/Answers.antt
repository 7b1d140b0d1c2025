-- The law as it was proved.
use Rattle.store_laws.proofs.PiecesEntered.{pieces_are_entered}
use Rattle.store_laws.proofs.page_laws.pieces_are_entered.Goals as goal

pub returns : goal.returns
returns c = pieces_are_entered
