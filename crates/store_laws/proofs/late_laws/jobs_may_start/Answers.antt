-- The law as it was proved.
use Rattle.store_laws.proofs.LateLists.{jobs_may_start}
use Rattle.store_laws.proofs.late_laws.jobs_may_start.Goals as goal

pub returns : goal.returns
returns c = jobs_may_start
