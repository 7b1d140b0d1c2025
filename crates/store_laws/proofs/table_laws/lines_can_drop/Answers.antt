-- The law as it was proved.
use Rattle.store_laws.proofs.BehindLines.{can_drop}
use Rattle.store_laws.proofs.table_laws.lines_can_drop.Goals as goal

pub returns : goal.returns
returns c s groups event own parts told table legal still is_own = can_drop s groups event own legal still is_own parts told table
