-- The law as it was proved.
use Rattle.store_laws.proofs.Stepping.{step_tells}
use Rattle.store_laws.proofs.step_laws.step_tells.Goals as goal

pub returns : goal.returns
returns c = step_tells
