-- Each session is computed.
use Rattle.std.proofs.Common.{[], ◌∷◌, refl}
use Rattle.blob_model.specs.RowsChains.{chain_dropped, chain_done}
use Rattle.blob_model.proofs.tested.Sessions.{all_legal}
use Rattle.blob_model.proofs.rows.chains_are_legal.Goals as goal

pub returns : goal.returns
returns c = all_legal (chain_dropped ∷ chain_done ∷ []) refl
