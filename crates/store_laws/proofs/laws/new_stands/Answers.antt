-- The law as it was proved.
use Rattle.store_laws.proofs.Beginning.{new_stands}
use Rattle.store_laws.proofs.laws.new_stands.Goals as goal

pub returns : goal.returns
returns c = new_stands
