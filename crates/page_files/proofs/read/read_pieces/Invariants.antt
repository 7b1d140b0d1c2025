use Rattle.std.proofs.Common.{◌≡◌, ◌≤◌, ◌+◌, ◌-◌, ◌^◌, None, length, take, min}
use Rattle.std.specs.Prelude.{IfSome}
use Rattle.page_files.specs.Pieces.{bytes_of}
use Rattle.page_files.specs.Writes.{read_of}
use Rattle.page_files.proofs.read.read_pieces.Given as goal

abbrev pub invariant-loop-held : goal.invariant-loop-held
invariant-loop-held g l = record {
  start : l.start ≡ bytes_of (take l.held-index l.pieces);
  size : length l.buffer ≡ length l.fn.buffer;
  closed : g.D.PageDisk.writing l.disk ≡ None;
  same : g.D.PageDisk.changes l.disk ≡ g.D.PageDisk.changes l.fn.disk;
  bytes : IfSome (g.D.PageDisk.changes l.fn.disk) (λ changes. take l.start l.buffer ≡ read_of l.page changes (take l.held-index l.pieces));
  good : g.D.PageDisk.faults l.disk ≡ g.D.PageDisk.faults l.fn.disk;
  read : min (g.D.PageDisk.meter l.disk) (2 ^ 64 - 1) ≡ min (g.D.PageDisk.meter l.fn.disk + l.start) (2 ^ 64 - 1);
  meter : min (g.D.PageDisk.meter l.fn.disk) (2 ^ 64 - 1) ≤ g.D.PageDisk.meter l.disk;
}
