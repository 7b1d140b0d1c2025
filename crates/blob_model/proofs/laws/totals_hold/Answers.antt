-- The law as it was proved.
use Rattle.blob_model.specs.History.{start, history_from}
use Rattle.blob_model.proofs.legal.Steps.{caused_from}
use Rattle.blob_model.proofs.legal.Totals.{totals_hold}
use Rattle.blob_model.proofs.laws.totals_hold.Goals as goal

pub returns : goal.returns
returns c s groups legal = totals_hold s (history_from start groups) (caused_from s groups legal)
