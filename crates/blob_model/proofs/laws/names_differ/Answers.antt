-- The law as it was proved.
use Rattle.std.proofs.Common.{[]}
use Rattle.blob_model.specs.History.{start}
use Rattle.blob_model.proofs.kept.Groups.{kept_start, kept_from}
use Rattle.blob_model.proofs.builds.Order.{ordered_distinct}
use Rattle.blob_model.proofs.laws.names_differ.Goals as goal

pub returns : goal.returns
returns c s groups legal = ordered_distinct [] _ (kept_from s start groups (kept_start s) legal).ordered
