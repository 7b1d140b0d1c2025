-- The law as it was proved.
use Rattle.store_laws.proofs.JobLines.{job_lines_stand}
use Rattle.store_laws.proofs.job_laws.job_lines_stand.Goals as goal

pub returns : goal.returns
returns c = job_lines_stand
