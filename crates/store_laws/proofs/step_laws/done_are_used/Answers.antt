-- The law as it was proved.
use Rattle.blob_model.specs.History.{history_from, start}
use Rattle.blob_model.proofs.legal.Steps.{caused_from}
use Rattle.store_laws.proofs.Using.{done_used}
use Rattle.store_laws.proofs.step_laws.done_are_used.Goals as goal

pub returns : goal.returns
returns c s groups legal = done_used s (history_from start groups) (caused_from s groups legal)
