-- The law as it was proved.
use Rattle.blob_model.specs.History.{start, history_from}
use Rattle.blob_model.proofs.legal.Steps.{caused_from, unspawned_alive}
use Rattle.blob_model.proofs.laws.unspawned_are_not_dead.Goals as goal

pub returns : goal.returns
returns c s groups number legal still fresh = unspawned_alive s (history_from start groups) number (caused_from s groups legal) still fresh
