-- The law as it was proved.
use Rattle.store_laws.proofs.Ended.{endings_stand}
use Rattle.store_laws.proofs.page_laws.endings_stand.Goals as goal

pub returns : goal.returns
returns c = endings_stand
