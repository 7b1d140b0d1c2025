use Rattle.std.proofs.Common.{◌≡◌, ◌<◌, None, length}
use Rattle.blob_items.specs.Cells.{total}
use Rattle.reader_tests.proofs.many.right_bytes.Given as goal

abbrev pub invariant-loop-turn : goal.invariant-loop-turn
invariant-loop-turn g l = record {
  closed : g.D.PageDisk.writing l.disk ≡ None;
  size : total l.views ≡ l.reader.size;
  room : 0 < length l.buffer;
}
