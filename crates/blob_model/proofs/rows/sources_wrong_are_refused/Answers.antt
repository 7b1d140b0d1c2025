-- Each session is computed.
use Rattle.std.proofs.Common.{refl}
use Rattle.blob_model.specs.WrongSources.{wrong_sources}
use Rattle.blob_model.proofs.tested.Sessions.{all_illegal}
use Rattle.blob_model.proofs.rows.sources_wrong_are_refused.Goals as goal

pub returns : goal.returns
returns c = all_illegal wrong_sources refl
