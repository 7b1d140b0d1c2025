-- The first key that is small enough is that of the first page that can move.
use Rattle.std.proofs.Common.{ℕ, ◌-◌, ◌^◌, min, nat_le, ◌∙◌}
use Rattle.page_files.specs.Pages.{can_move}
use Rattle.page_files.specs.Keys.{thin_key}
use Rattle.page_files.proofs.Pages.{position_same, thin_keys}
use Rattle.page_files.proofs.page_table.PageTable.first_thin.Goals as goal

pub returns : goal.returns
returns c =
    let pages = c.self.inside.pages.items in
    let keys = position_same thin_key (λ (key : ℕ). nat_le key (min c.args.room (2 ^ 64 - 2))) (can_move c.args.room) pages
    (thin_keys c.args.room pages c.self.invariant.2) in
    c.first.ensures ∙ rw (c.min.ensures, c.self.invariant.0, ← c.self.view_is) keys
