-- Each session is computed.
use Rattle.std.proofs.Common.{[], ◌∷◌, refl}
use Rattle.blob_model.specs.RowsTransit.{unfinished_source, builder_dies, nobody_holds, out_of_order}
use Rattle.blob_model.proofs.tested.Sessions.{all_legal}
use Rattle.blob_model.proofs.rows.transit_are_legal.Goals as goal

pub returns : goal.returns
returns c = all_legal (unfinished_source ∷ builder_dies ∷ nobody_holds ∷ out_of_order ∷ []) refl
