-- Each session is computed.
use Rattle.std.proofs.Common.{refl}
use Rattle.blob_model.specs.WrongQuota.{wrong_quota}
use Rattle.blob_model.proofs.tested.Sessions.{all_illegal}
use Rattle.blob_model.proofs.rows.quota_wrong_are_refused.Goals as goal

pub returns : goal.returns
returns c = all_illegal wrong_quota refl
