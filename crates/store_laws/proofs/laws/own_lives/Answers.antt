-- The law as it was proved.
use Rattle.blob_model.specs.History.{history_from, start}
use Rattle.blob_model.proofs.memory.Bounded.{bounded_from, bounded_start}
use Rattle.store_laws.proofs.OwnLives.{own_lives}
use Rattle.store_laws.proofs.laws.own_lives.Goals as goal

pub returns : goal.returns
returns c s groups event own legal is name lives =
    own_lives s (history_from start groups) event own (bounded_from s start groups (bounded_start s) legal) is name lives
