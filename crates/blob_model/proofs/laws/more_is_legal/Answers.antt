-- The law as it was proved.
use Rattle.blob_model.proofs.legal.Fronts.{more_legal}
use Rattle.blob_model.proofs.laws.more_is_legal.Goals as goal

pub returns : goal.returns
returns c = more_legal
