-- The law as it was proved.
use Rattle.store_laws.proofs.Rooted.{roots_agree}
use Rattle.store_laws.proofs.table_laws.roots_agree.Goals as goal

pub returns : goal.returns
returns c s h stands parts told table between distinct urls_apart readers_apart ordered rooted =
    roots_agree s h stands parts told table between urls_apart readers_apart ordered rooted distinct
