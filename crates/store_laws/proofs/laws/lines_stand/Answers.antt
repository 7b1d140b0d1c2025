-- The law as it was proved.
use Rattle.store_laws.proofs.AfterLines.{lines_stand}
use Rattle.store_laws.proofs.laws.lines_stand.Goals as goal

pub returns : goal.returns
returns c = lines_stand
