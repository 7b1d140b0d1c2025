-- The law as it was proved.
use Rattle.store_laws.proofs.Stepped.{step_leaves}
use Rattle.store_laws.proofs.step_laws.step_leaves.Goals as goal

pub returns : goal.returns
returns c = step_leaves
