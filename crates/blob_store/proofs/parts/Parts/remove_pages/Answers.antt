-- One page after the other is asked for and told, and then none is due.
use Rattle.std.proofs.Common.{◌<◌, sym, subst, ◌∙◌, arith}
use Rattle.std.specs.List.{count_by}
use Rattle.page_files.specs.Files.{Files}
use Rattle.page_files.specs.Pages.{is_due}
use Rattle.blob_store.specs.Telling.{Removes}
use Rattle.blob_store.specs.Says.{scene}
use Rattle.blob_store.specs.Whole.{Whole}
use Rattle.blob_store.proofs.RemovedPages.{fewer_due, none_more, one_more, whole_removed}
use Rattle.blob_store.proofs.parts.Parts.remove_pages.Goals as goal

pub loop-page-smaller : goal.loop-page-smaller
loop-page-smaller g c =
    subst (λ (files : Files). count_by is_due files.pages < count_by is_due c.loop-page.self.pages.pages) (sym c.in-Some.ensures.files)
    (fewer_due c.loop-page.self.pages.pages c.in-Some.page.0 (sym c.in-Some.ensures.due))

pub loop-page-preserved : goal.loop-page-preserved
loop-page-preserved g c =
    let parts = c.loop-page.self in
    let was = c.loop-page.invariant in
    record {
      whole = subst (λ (files : Files). Whole (record parts { pages = files })) (sym c.in-Some.ensures.files)
          (whole_removed parts c.in-Some.page.0 (sym c.in-Some.ensures.due) was.whole);
      swept = record { emptied = was.swept.emptied; viewed = was.swept.viewed };
      closed = c.in-Some.ensures.closed;
      agrees = c.in-Some.ensures.agrees;
      items = was.items;
      some = λ table.
          one_more c.args.answers.now c.loop-page.answers c.push.new.self (scene c.args.self.now (g.D.PageDisk.changes c.args.disk.now) table) parts
          (g.D.PageDisk.changes c.loop-page.disk) (g.D.PageDisk.changes c.remove_due.new.disk) table c.in-Some.page.0 c.in-Some.goes
          c.removal_of-answer.result c.remove_due.new.self c.in-Some.ensures.files c.in-Some.ensures.changes c.in-Ok.ensures.ok
          c.removal_of-answer.ensures (was.some table) was.whole was.swept (sym c.in-Some.ensures.due);
      later = omega (arith, was.later, c.in-Some.ensures.later);
      meter = c.in-Some.ensures.meter ∙ was.meter;
    }

pub returns-clause-removes : goal.returns-clause-removes
unfolding Removes
returns-clause-removes g c table s h late =
    let was = c.loop-page.invariant in
    none_more c.args.answers.now c.loop-page.answers (scene c.args.self.now (g.D.PageDisk.changes c.args.disk.now) table) c.loop-page.self
    (g.D.PageDisk.changes c.loop-page.disk) (g.D.PageDisk.changes c.remove_due.new.disk) table c.remove_due.new.self c.in_default.ensures.files
    c.in_default.ensures.changes (was.some table) was.whole was.swept (sym c.in_default.ensures.due) s h late
