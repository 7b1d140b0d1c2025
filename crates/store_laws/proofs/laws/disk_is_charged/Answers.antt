-- The law as it was proved.
use Rattle.store_laws.proofs.PageCharges.{disk_told}
use Rattle.store_laws.proofs.laws.disk_is_charged.Goals as goal

pub returns : goal.returns
returns c = disk_told
