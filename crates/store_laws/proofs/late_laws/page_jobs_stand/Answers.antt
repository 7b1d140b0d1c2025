-- The law as it was proved.
use Rattle.store_laws.proofs.JobStarts.{page_jobs_stand}
use Rattle.store_laws.proofs.late_laws.page_jobs_stand.Goals as goal

pub returns : goal.returns
returns c = page_jobs_stand
