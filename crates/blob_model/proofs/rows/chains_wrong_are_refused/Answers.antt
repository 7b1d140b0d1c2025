-- Each session is computed.
use Rattle.std.proofs.Common.{refl}
use Rattle.blob_model.specs.WrongChains.{wrong_chains}
use Rattle.blob_model.proofs.tested.Sessions.{all_illegal}
use Rattle.blob_model.proofs.rows.chains_wrong_are_refused.Goals as goal

pub returns : goal.returns
returns c = all_illegal wrong_chains refl
