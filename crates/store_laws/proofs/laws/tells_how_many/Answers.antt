-- The law as it was proved.
use Rattle.store_laws.proofs.Counting.{tells_how_many}
use Rattle.store_laws.proofs.laws.tells_how_many.Goals as goal

pub returns : goal.returns
returns c = tells_how_many
