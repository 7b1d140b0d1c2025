-- The law as it was proved.
use Rattle.store_laws.proofs.Leaving.{sweep_leaves_live}
use Rattle.store_laws.proofs.laws.sweep_leaves_live.Goals as goal

pub returns : goal.returns
returns c = sweep_leaves_live
