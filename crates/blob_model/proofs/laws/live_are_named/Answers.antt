-- The law as it was proved.
use Rattle.blob_model.proofs.live.Names.{live_named}
use Rattle.blob_model.proofs.laws.live_are_named.Goals as goal

pub returns : goal.returns
returns c page h distinct = live_named page h distinct
