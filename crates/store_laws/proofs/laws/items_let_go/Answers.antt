-- The law as it was proved.
use Rattle.store_laws.proofs.Queueing.{items_let_go}
use Rattle.store_laws.proofs.laws.items_let_go.Goals as goal

pub returns : goal.returns
returns c = items_let_go
