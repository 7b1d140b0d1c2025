-- The law as it was proved.
use Rattle.blob_model.proofs.builds.Cells.{cells_are_sizes}
use Rattle.blob_model.proofs.laws.cells_are_sizes.Goals as goal

pub returns : goal.returns
returns c = cells_are_sizes
