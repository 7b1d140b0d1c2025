-- The law as it was proved.
use Rattle.store_laws.proofs.Resting.{rests_when_settled}
use Rattle.store_laws.proofs.laws.settled_rests.Goals as goal

pub returns : goal.returns
returns c = rests_when_settled
