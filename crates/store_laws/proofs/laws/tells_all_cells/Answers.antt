-- The law as it was proved.
use Rattle.store_laws.proofs.ToldPages.{tells_all_cells}
use Rattle.store_laws.proofs.laws.tells_all_cells.Goals as goal

pub returns : goal.returns
returns c = tells_all_cells
