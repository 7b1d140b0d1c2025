-- The law as it was proved.
use Rattle.blob_model.specs.History.{history_from, start}
use Rattle.blob_model.proofs.legal.Steps.{caused_from}
use Rattle.store_laws.proofs.PageNumbers.{pages_in_turn}
use Rattle.store_laws.proofs.laws.pages_in_turn.Goals as goal

pub returns : goal.returns
returns c s groups legal = pages_in_turn s (history_from start groups) (caused_from s groups legal)
