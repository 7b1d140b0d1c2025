-- The law as it was proved.
use Rattle.store_laws.proofs.Releasing.{handles_let_go}
use Rattle.store_laws.proofs.laws.handles_let_go.Goals as goal

pub returns : goal.returns
returns c = handles_let_go
