-- The law as it was proved.
use Rattle.blob_model.specs.History.{start, history_from}
use Rattle.blob_model.proofs.legal.Steps.{caused_from, asked_listed}
use Rattle.blob_model.proofs.laws.asked_were_written.Goals as goal

pub returns : goal.returns
returns c s groups legal = asked_listed s (history_from start groups) (caused_from s groups legal)
