-- The law as it was proved.
use Rattle.store_laws.proofs.Unpinned.{unpinned_stands}
use Rattle.store_laws.proofs.page_laws.unpinned_stands.Goals as goal

pub returns : goal.returns
returns c = unpinned_stands
