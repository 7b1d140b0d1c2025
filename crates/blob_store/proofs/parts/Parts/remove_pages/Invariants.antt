use Rattle.std.proofs.Common.{◌≡◌, ◌≤◌, None}
use Rattle.std.specs.Prelude.{IfSome}
use Rattle.std.specs.List.{count_by}
use Rattle.data_handles.specs.Table.{Table}
use Rattle.page_files.specs.Files.{Agrees}
use Rattle.page_files.specs.Pages.{is_due}
use Rattle.store_laws.specs.LateLaws.{IsSwept}
use Rattle.blob_store.specs.Says.{scene}
use Rattle.blob_store.specs.Seen.{parts_of}
use Rattle.blob_store.specs.Whole.{Whole}
use Rattle.blob_store.proofs.RemovedPages.{RemovesSome}
use Rattle.blob_store.proofs.parts.Parts.remove_pages.Given as goal

abbrev pub invariant-loop-page : goal.invariant-loop-page
invariant-loop-page g l = record {
  whole : Whole l.self;
  swept : IsSwept (parts_of l.self);
  closed : g.D.PageDisk.writing l.disk ≡ None;
  agrees : IfSome (g.D.PageDisk.changes l.disk) (Agrees l.self.pages.pages);
  items : l.self.shares ≡ l.fn.self.shares;
  some : (table : Table)
      → RemovesSome l.fn.answers l.answers (scene l.fn.self (g.D.PageDisk.changes l.fn.disk) table) (scene l.self (g.D.PageDisk.changes l.disk) table);
  later : g.D.PageDisk.faults l.fn.disk ≤ g.D.PageDisk.faults l.disk;
  meter : g.D.PageDisk.meter l.disk ≡ g.D.PageDisk.meter l.fn.disk;
}

abbrev pub decreases-loop-page : goal.decreases-loop-page
decreases-loop-page g l = count_by is_due l.self.pages.pages
