-- One page more was asked for, where it wasn't before.
use Rattle.std.proofs.Common.{◌<◌, ◌≤◌, ◌^◌, ◌++◌, List, arith, drop, length, take, refl, ap, ◌∙◌}
use Rattle.std.proofs.lemmas.List.{length-take-le}
use Rattle.page_files.specs.declared.page.Page.{Page}
use Rattle.page_files.specs.Files.{all_asked, asked}
use Rattle.page_files.proofs.Closing.{closes_few, pages_more, step_closes}
use Rattle.page_files.proofs.page_files.PageFiles.close.Goals as goal

pub count-requires : goal.count-requires
count-requires g c =
    let pages = c.args.self.now.pages in
    let inside : c.loop-place.place < length pages = rw (← c.self.view_is, ← c.len-place-end.ensures) c.loop-place-test.true in
    let bound : length pages ≤ 2 ^ 31 = rw (← c.self.view_is) c.self.invariant.3 in
    let few = closes_few (take c.loop-place.place pages) (g.D.PageDisk.changes c.args.disk.now) (g.D.PageDisk.changes c.loop-place.disk)
    (g.D.PageDisk.faults c.args.disk.now) (g.D.PageDisk.faults c.loop-place.disk) c.loop-place.closed c.loop-place.invariant.closes in
    omega (arith, few, bound, inside, length-take-le c.loop-place.place pages (omega (arith, inside)))

pub loop-place-preserved : goal.loop-place-preserved
loop-place-preserved g c =
    let pages = c.args.self.now.pages in
    let n = c.loop-place.place in
    let inside : n < length pages = rw (← c.self.view_is, ← c.len-place-end.ensures) c.loop-place-test.true in
    let mid = ap (λ files. files.pages) c.loop-place.invariant.files in
    record {
      files = c.ask_once-goes.ensures.files ∙ ap (asked n) c.loop-place.invariant.files ∙ ap (λ (list : List Page). record c.args.self.now { pages = list })
          (pages_more pages (all_asked (take n pages) ++ drop n pages) n inside refl);
      closes = rw c.count.ensures (step_closes pages c.loop-place.self.pages n inside mid (g.D.PageDisk.changes c.args.disk.now)
          (g.D.PageDisk.changes c.loop-place.disk) (g.D.PageDisk.changes c.ask_once-goes.new.disk)
          (g.D.PageDisk.faults c.args.disk.now) (g.D.PageDisk.faults c.loop-place.disk) (g.D.PageDisk.faults c.ask_once-goes.new.disk) c.loop-place.closed
          c.ask_once-goes.result c.loop-place.invariant.closes c.ask_once-goes.ensures.later
          c.ask_once-goes.ensures.once c.ask_once-goes.ensures.changes c.ask_once-goes.ensures.left);
      closed = c.ask_once-goes.ensures.closed;
      agrees = c.ask_once-goes.ensures.agrees;
      later = omega (arith, c.loop-place.invariant.later, c.ask_once-goes.ensures.later);
      meter = c.ask_once-goes.ensures.meter ∙ c.loop-place.invariant.meter;
    }
