-- The law as it was proved.
use Rattle.registry_laws.proofs.Left.{sweep_agrees}
use Rattle.registry_laws.proofs.sweep_agrees.Goals as goal

pub returns : goal.returns
returns c = sweep_agrees
