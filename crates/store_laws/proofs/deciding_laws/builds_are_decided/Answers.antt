-- The law as it was proved.
use Rattle.store_laws.proofs.Decided.{builds_decided}
use Rattle.store_laws.proofs.deciding_laws.builds_are_decided.Goals as goal

pub returns : goal.returns
returns c = builds_decided
