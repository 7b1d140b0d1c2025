use Rattle.session_script.proofs.Single.{one_fault}
use Rattle.session_script.proofs.laws.faults_are_single.Goals as goal

pub returns : goal.returns
returns c = one_fault
