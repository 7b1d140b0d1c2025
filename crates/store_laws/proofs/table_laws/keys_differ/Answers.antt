-- The law as it was proved.
use Rattle.store_laws.proofs.ApartHistories.{keys_differ}
use Rattle.store_laws.proofs.table_laws.keys_differ.Goals as goal

pub returns : goal.returns
returns c = keys_differ
