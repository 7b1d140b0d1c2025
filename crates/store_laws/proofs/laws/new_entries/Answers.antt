-- The law as it was proved.
use Rattle.store_laws.proofs.Entering.{new_entries}
use Rattle.store_laws.proofs.laws.new_entries.Goals as goal

pub returns : goal.returns
returns c = new_entries
