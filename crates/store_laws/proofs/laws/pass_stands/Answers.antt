-- The law as it was proved.
use Rattle.store_laws.proofs.PassContents.{pass_stands}
use Rattle.store_laws.proofs.laws.pass_stands.Goals as goal

pub returns : goal.returns
returns c = pass_stands
