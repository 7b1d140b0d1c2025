-- The law as it was proved.
use Rattle.blob_model.proofs.settled.Refused.{refused_settles}
use Rattle.blob_model.proofs.laws.refused_settles_nothing.Goals as goal

pub returns : goal.returns
returns c = refused_settles
