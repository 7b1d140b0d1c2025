-- The law as it was proved.
use Rattle.store_laws.proofs.Letting.{pages_let_go}
use Rattle.store_laws.proofs.laws.pages_let_go.Goals as goal

pub returns : goal.returns
returns c = pages_let_go
