use Rattle.std.proofs.Common.{refl}
use Rattle.session_script.proofs.Limits.{same_limits}
use Rattle.session_gen.specs.Gen.{limits}
use Rattle.session_gen.proofs.first.limits.Goals as goal

pub returns : goal.returns
returns c = same_limits _ limits refl
