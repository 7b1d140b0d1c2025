-- The keys are those of the pages.
use Rattle.std.proofs.Common.{sym}
use Rattle.std.proofs.lemmas.List.{map-set}
use Rattle.page_files.specs.Keys.{due_key, thin_key, HasSize}
use Rattle.page_files.proofs.Pages.{all_set}
use Rattle.page_files.proofs.page_table.PageTable.put.Goals as goal

pub invariant_of-self : goal.invariant_of-self
invariant_of-self c = (
  rw (c.set.ensures, c.self.invariant.0, c.thin_key.ensures) (sym (map-set thin_key c.self.inside.pages.items c.args.place c.args.page)),
  rw (c.set-2.ensures, c.self.invariant.1, c.due_key.ensures) (sym (map-set due_key c.self.inside.pages.items c.args.place c.args.page)),
  all_set HasSize c.self.inside.pages.items c.args.place c.args.page c.self.invariant.2 c.requires.size,
)
