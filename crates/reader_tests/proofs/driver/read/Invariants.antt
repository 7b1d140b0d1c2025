use Rattle.std.proofs.Common.{◌≡◌, ◌<◌, None, vec_len}
use Rattle.blob_items.specs.Cells.{total}
use Rattle.reader_tests.proofs.driver.read.Given as goal

abbrev pub invariant-loop-turn : goal.invariant-loop-turn
invariant-loop-turn g l = record {
  closed : g.D.PageDisk.writing l.disk ≡ None;
  untold : g.D.PageDisk.changes l.disk ≡ None;
  size : total l.views ≡ l.reader.size;
  room : 0 < vec_len l.buffer;
}
