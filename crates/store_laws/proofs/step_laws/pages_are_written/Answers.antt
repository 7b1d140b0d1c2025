-- The law as it was proved.
use Rattle.blob_model.specs.History.{history_from, start}
use Rattle.blob_model.proofs.legal.Steps.{caused_from}
use Rattle.store_laws.proofs.Writing.{all_written}
use Rattle.store_laws.proofs.step_laws.pages_are_written.Goals as goal

pub returns : goal.returns
returns c s groups legal = all_written s (history_from start groups) (caused_from s groups legal)
