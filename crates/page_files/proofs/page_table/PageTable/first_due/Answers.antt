-- The first key that is 0 is that of the first page that is due.
use Rattle.std.proofs.Common.{ℕ, nat_le, ◌∙◌}
use Rattle.page_files.specs.Pages.{is_due}
use Rattle.page_files.specs.Keys.{due_key}
use Rattle.page_files.proofs.Pages.{due_keys, position_same}
use Rattle.page_files.proofs.page_table.PageTable.first_due.Goals as goal

pub returns : goal.returns
returns c =
    let pages = c.self.inside.pages.items in
    let keys = position_same due_key (λ (key : ℕ). nat_le key 0) is_due pages (due_keys pages) in
    c.first.ensures ∙ rw (c.self.invariant.1, ← c.self.view_is) keys
