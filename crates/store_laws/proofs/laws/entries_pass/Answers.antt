-- The law as it was proved.
use Rattle.store_laws.proofs.PassStand.{entries_pass}
use Rattle.store_laws.proofs.laws.entries_pass.Goals as goal

pub returns : goal.returns
returns c = entries_pass
