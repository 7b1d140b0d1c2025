-- The law as it was proved.
use Rattle.blob_model.specs.History.{start, history_from}
use Rattle.blob_model.proofs.legal.PageNumbers.{pages_rise}
use Rattle.blob_model.proofs.legal.Steps.{caused_from}
use Rattle.blob_model.proofs.laws.pages_rise.Goals as goal

pub returns : goal.returns
returns c s groups legal = pages_rise s (history_from start groups) (caused_from s groups legal)
