-- The law as it was proved.
use Rattle.store_laws.proofs.ContentsGrow.{contents_grow}
use Rattle.store_laws.proofs.laws.contents_grow.Goals as goal

pub returns : goal.returns
returns c = contents_grow
