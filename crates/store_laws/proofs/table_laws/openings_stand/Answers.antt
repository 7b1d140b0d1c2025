-- The law as it was proved.
use Rattle.store_laws.proofs.Openings.{openings_stand}
use Rattle.store_laws.proofs.table_laws.openings_stand.Goals as goal

pub returns : goal.returns
returns c = openings_stand
