-- The law as it was proved.
use Rattle.blob_model.specs.History.{start, history_from}
use Rattle.blob_model.proofs.legal.Steps.{caused_from}
use Rattle.blob_model.proofs.bytes.Written.{written_whole}
use Rattle.blob_model.proofs.laws.written_have_bytes.Goals as goal

pub returns : goal.returns
returns c s groups legal = written_whole s (history_from start groups) (caused_from s groups legal)
