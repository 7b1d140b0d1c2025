-- The law as it was proved.
use Rattle.store_laws.proofs.Unread.{step_unread}
use Rattle.store_laws.proofs.step_laws.step_unread.Goals as goal

pub returns : goal.returns
returns c = step_unread
