-- The keys are those of the pages.
use Rattle.std.proofs.Common.{sym}
use Rattle.std.proofs.lemmas.List.{map-set}
use Rattle.page_files.specs.Keys.{due_key, thin_key, HasSize}
use Rattle.page_files.proofs.Pages.{all_set, size_after}
use Rattle.page_files.proofs.page_table.PageTable.release.Goals as goal

pub invariant_of-self : goal.invariant_of-self
invariant_of-self c =
    let pages = c.self.inside.pages.items in
    let one = c.release.new.self in (
      rw (c.set.ensures, c.self.invariant.0, c.thin_key.ensures) (sym (map-set thin_key pages c.args.place one)),
      rw (c.set-in-Some.ensures, c.self.invariant.1, c.due_key.ensures) (sym (map-set due_key pages c.args.place one)),
      all_set HasSize pages c.args.place one c.self.invariant.2 (rw c.release.ensures
          (size_after pages c.args.place c.in-Some.page.now c.args.piece c.self.invariant.2 c.in-Some.ensures.item.3.0 c.in-Some.ensures.item.1)),
    )
