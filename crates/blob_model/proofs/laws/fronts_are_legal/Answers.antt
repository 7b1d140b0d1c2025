-- The law as it was proved.
use Rattle.blob_model.proofs.legal.Fronts.{fronts}
use Rattle.blob_model.proofs.laws.fronts_are_legal.Goals as goal

pub returns : goal.returns
returns c = fronts
