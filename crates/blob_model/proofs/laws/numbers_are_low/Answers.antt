-- The law as it was proved.
use Rattle.blob_model.specs.History.{start, history_from}
use Rattle.blob_model.proofs.legal.Steps.{caused_from}
use Rattle.blob_model.proofs.counts.Numbers.{jobs_low, pages_low}
use Rattle.blob_model.proofs.laws.numbers_are_low.Goals as goal

pub returns : goal.returns
returns c s groups legal = (
  jobs_low s (history_from start groups) (caused_from s groups legal),
  pages_low s (history_from start groups)
      (caused_from s groups legal),
)
