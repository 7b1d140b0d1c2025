use Rattle.std.proofs.Common.{◌≤◌, ◌<◌, ◌^◌, ap, arith, subst, sym}
use Rattle.page_files.specs.Files.{room, Files}
use Rattle.page_cases.proofs.Moves.{both_apart}
use Rattle.page_cases.proofs.moving.start_both.Goals as goal

pub start_job-requires-clause-idle : goal.start_job-requires-clause-idle
start_job-requires-clause-idle c = ap (λ (files : Files). files.job) c.requires.fresh

pub start_job-requires-clause-paging : goal.start_job-requires-clause-paging
start_job-requires-clause-paging c = ap (λ (files : Files). files.paging) c.requires.fresh

pub start_job-requires-clause-apart : goal.start_job-requires-clause-apart
start_job-requires-clause-apart c = both_apart

pub start_job-requires-clause-room : goal.start_job-requires-clause-room
start_job-requires-clause-room c = subst (λ (files : Files). 7 ≤ room files) (sym c.requires.fresh) (omega arith)

pub start_job-requires-clause-numbers : goal.start_job-requires-clause-numbers
start_job-requires-clause-numbers c = subst (λ (files : Files). files.jobs < 2 ^ 31) (sym c.requires.fresh) (omega arith)
