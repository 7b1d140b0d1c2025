use Rattle.std.proofs.Common.{◌≡◌, length}
use Rattle.page_files.proofs.Writing.{Appended}
use Rattle.page_files.proofs.write.append_all.Given as goal

abbrev pub invariant-loop-rest : goal.invariant-loop-rest
invariant-loop-rest g l = record {
  appended : Appended (g.D.PageDisk.writing l.fn.disk) (g.D.PageDisk.writing l.disk) (g.D.PageDisk.changes l.fn.disk) (g.D.PageDisk.changes l.disk)
      (g.D.PageDisk.came l.fn.disk) (g.D.PageDisk.came l.disk) l.bytes l.rest;
  good : g.D.PageDisk.faults l.disk ≡ g.D.PageDisk.faults l.fn.disk;
  meter : g.D.PageDisk.meter l.disk ≡ g.D.PageDisk.meter l.fn.disk;
}

abbrev pub decreases-loop-rest : goal.decreases-loop-rest
decreases-loop-rest g l = length l.rest
