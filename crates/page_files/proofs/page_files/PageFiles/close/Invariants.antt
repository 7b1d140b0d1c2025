use Rattle.std.proofs.Common.{◌≡◌, ◌≤◌, ◌++◌, None, drop, take}
use Rattle.std.specs.Prelude.{IfSome}
use Rattle.page_files.specs.Files.{all_asked, Agrees, Closes}
use Rattle.page_files.proofs.page_files.PageFiles.close.Given as goal

abbrev pub invariant-loop-place : goal.invariant-loop-place
invariant-loop-place g l = record {
  files : l.self ≡ record l.fn.self { pages = all_asked (take l.place l.fn.self.pages) ++ drop l.place l.fn.self.pages };
  closes : Closes (take l.place l.fn.self.pages) (g.D.PageDisk.changes l.fn.disk) (g.D.PageDisk.changes l.disk) (g.D.PageDisk.faults l.fn.disk)
      (g.D.PageDisk.faults l.disk) l.closed;
  closed : g.D.PageDisk.writing l.disk ≡ None;
  agrees : IfSome (g.D.PageDisk.changes l.disk) (Agrees l.self.pages);
  later : g.D.PageDisk.faults l.fn.disk ≤ g.D.PageDisk.faults l.disk;
  meter : g.D.PageDisk.meter l.disk ≡ g.D.PageDisk.meter l.fn.disk;
}
