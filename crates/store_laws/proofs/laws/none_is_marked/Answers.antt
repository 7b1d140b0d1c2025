-- The law as it was proved.
use Rattle.store_laws.proofs.Unmarked.{none_marked}
use Rattle.store_laws.proofs.laws.none_is_marked.Goals as goal

pub returns : goal.returns
returns c = none_marked
