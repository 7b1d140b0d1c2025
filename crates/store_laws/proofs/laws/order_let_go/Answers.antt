-- The law as it was proved.
use Rattle.store_laws.proofs.OrderLeft.{order_let_go}
use Rattle.store_laws.proofs.laws.order_let_go.Goals as goal

pub returns : goal.returns
returns c = order_let_go
