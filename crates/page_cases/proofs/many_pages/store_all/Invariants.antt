use Rattle.std.proofs.Common.{◌≡◌, None, length}
use Rattle.std.specs.Prelude.{IfSome}
use Rattle.page_files.specs.Files.{Agrees}
use Rattle.page_cases.proofs.many_pages.store_all.Given as goal

abbrev pub invariant-loop-number : goal.invariant-loop-number
invariant-loop-number g l = record {
  closed : g.D.PageDisk.writing l.disk ≡ None;
  agrees : IfSome (g.D.PageDisk.changes l.disk) (Agrees l.files.pages);
  limit : l.files.limit ≡ 65536;
  pages : length l.files.pages ≡ l.number;
}
