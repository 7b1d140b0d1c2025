-- The page's removal was asked for.
use Rattle.std.proofs.Common.{true, false}
use Rattle.page_files.proofs.Agreement.{told_asked, unasked_inside}
use Rattle.page_files.proofs.page_files.PageFiles.ask.Goals as goal

pub returns-in-Ok-clause-agrees : goal.returns-in-Ok-clause-agrees
returns-in-Ok-clause-agrees g c =
    let pages = c.args.self.now.pages in
    rw (c.in-Ok.ensures.ok, c.forget.ensures) (told_asked (g.D.PageDisk.changes c.args.disk.now) pages c.args.place true
    (unasked_inside pages c.args.place c.requires.unasked) c.requires.agrees)

pub returns-in-Err-clause-agrees : goal.returns-in-Err-clause-agrees
returns-in-Err-clause-agrees g c =
    let pages = c.args.self.now.pages in
    rw (c.in-Err.ensures.failed.0, c.forget.ensures) (told_asked (g.D.PageDisk.changes c.args.disk.now) pages c.args.place false
    (unasked_inside pages c.args.place c.requires.unasked) c.requires.agrees)
