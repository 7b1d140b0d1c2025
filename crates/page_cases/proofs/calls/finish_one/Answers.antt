use Rattle.std.proofs.Common.{rules}
use Rattle.page_files.specs.Ends.{scene}
use Rattle.page_files.specs.Items.{IsMemoryIn}
use Rattle.page_cases.specs.Runs.{four}
use Rattle.page_cases.proofs.Ends.{there_after}
use Rattle.page_cases.proofs.calls.finish_one.Goals as goal

pub returns-clause-there : goal.returns-clause-there
returns-clause-there g c =
    let memory : IsMemoryIn c.args.shares.now (four 0 c.args.slot) = search rules in
    there_after c.args.job (scene g.D.PageDisk _ _ _) (scene g.D.PageDisk _ _ _) c.finish_job.result (four 0 c.args.slot) c.finish_job.ensures.ends
    c.requires.left memory c.requires.agrees
