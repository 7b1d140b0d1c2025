-- The law as it was proved.
use Rattle.store_laws.proofs.Queueing.{queue_let_go}
use Rattle.store_laws.proofs.laws.queue_let_go.Goals as goal

pub returns : goal.returns
returns c = queue_let_go
