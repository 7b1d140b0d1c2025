use Rattle.std.proofs.Common.{◌≡◌, take}
use Rattle.page_files.specs.Pieces.{bytes_of}
use Rattle.page_files.specs.Items.{bytes_in}
use Rattle.page_files.proofs.Writing.{Added}
use Rattle.page_files.proofs.write.append_items.Given as goal

abbrev pub invariant-loop-held : goal.invariant-loop-held
invariant-loop-held g l = record {
  added : Added (g.D.PageDisk.writing l.fn.disk) (g.D.PageDisk.writing l.disk) (g.D.PageDisk.changes l.fn.disk) (g.D.PageDisk.changes l.disk)
      (g.D.PageDisk.came l.fn.disk) (g.D.PageDisk.came l.disk)
      (bytes_of (take l.held-index l.pieces)) (bytes_in l.shares (take l.held-index l.pieces));
  good : g.D.PageDisk.faults l.disk ≡ g.D.PageDisk.faults l.fn.disk;
  meter : g.D.PageDisk.meter l.disk ≡ g.D.PageDisk.meter l.fn.disk;
}
