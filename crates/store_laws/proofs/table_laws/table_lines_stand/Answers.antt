-- The law as it was proved.
use Rattle.store_laws.proofs.TableLines.{table_lines_stand}
use Rattle.store_laws.proofs.table_laws.table_lines_stand.Goals as goal

pub returns : goal.returns
returns c = table_lines_stand
