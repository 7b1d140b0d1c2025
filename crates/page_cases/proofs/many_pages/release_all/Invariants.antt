use Rattle.std.proofs.Common.{◌≡◌, None}
use Rattle.std.specs.Prelude.{IfSome}
use Rattle.page_files.specs.Files.{Agrees}
use Rattle.page_cases.proofs.many_pages.release_all.Given as goal

abbrev pub invariant-loop-step : goal.invariant-loop-step
invariant-loop-step g l = record {
  closed : g.D.PageDisk.writing l.disk ≡ None;
  agrees : IfSome (g.D.PageDisk.changes l.disk) (Agrees l.files.pages);
}
