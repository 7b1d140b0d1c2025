-- The law as it was proved.
use Rattle.store_laws.proofs.Told.{tells_cells}
use Rattle.store_laws.proofs.laws.tells_cells.Goals as goal

pub returns : goal.returns
returns c = tells_cells
