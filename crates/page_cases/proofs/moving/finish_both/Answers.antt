use Rattle.page_files.specs.Ends.{scene}
use Rattle.page_cases.proofs.Moves.{both_counted, both_paged, both_there}
use Rattle.page_cases.proofs.moving.finish_both.Goals as goal

pub returns-clause-paged : goal.returns-clause-paged
returns-clause-paged g c = both_paged c.args.files.now.limit c.args.slots.0 c.args.slots.1 c.args.job (scene g.D.PageDisk _ _ _) (scene g.D.PageDisk _ _ _)
    c.requires.started c.finish_job.result c.finish_job.ensures.ends

pub returns-clause-there : goal.returns-clause-there
returns-clause-there g c = both_there c.args.files.now.limit c.args.slots.0 c.args.slots.1 c.args.job (scene g.D.PageDisk _ _ _) (scene g.D.PageDisk _ _ _)
    c.requires.started c.finish_job.result c.finish_job.ensures.ends c.requires.fresh c.requires.items

pub returns-clause-jobs : goal.returns-clause-jobs
returns-clause-jobs g c = both_counted c.args.files.now.limit c.args.slots.0 c.args.slots.1 c.args.job (scene g.D.PageDisk _ _ _) (scene g.D.PageDisk _ _ _)
    c.requires.started c.finish_job.result c.finish_job.ensures.ends
