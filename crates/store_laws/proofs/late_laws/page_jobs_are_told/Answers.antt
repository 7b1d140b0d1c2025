-- The law as it was proved.
use Rattle.store_laws.proofs.LateLists.{page_jobs_are_told}
use Rattle.store_laws.proofs.late_laws.page_jobs_are_told.Goals as goal

pub returns : goal.returns
returns c = page_jobs_are_told
