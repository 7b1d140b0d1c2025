-- The law as it was proved.
use Rattle.blob_model.proofs.memory.Bounded.{memory_fits}
use Rattle.blob_model.proofs.laws.memory_fits.Goals as goal

pub returns : goal.returns
returns c = memory_fits
