-- Each session is computed.
use Rattle.std.proofs.Common.{[], ◌∷◌, refl}
use Rattle.blob_model.specs.RowsBroken.{before_a_fault, broken_at_line}
use Rattle.blob_model.proofs.tested.Sessions.{all_legal}
use Rattle.blob_model.proofs.rows.broken_are_legal.Goals as goal

pub returns : goal.returns
returns c = all_legal (before_a_fault ∷ broken_at_line ∷ []) refl
