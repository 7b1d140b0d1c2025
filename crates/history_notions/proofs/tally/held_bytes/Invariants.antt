use Rattle.std.proofs.Common.{◌≡◌, sum_by, take, filter}
use Rattle.blob_model.specs.Pages.{page_size}
use Rattle.history_notions.specs.Placed.{holds_some}
use Rattle.history_notions.proofs.tally.held_bytes.Given as goal

abbrev pub invariant-loop-page : goal.invariant-loop-page
invariant-loop-page l = l.total ≡ sum_by (page_size l.all) (filter (holds_some l.pages l.builds l.list) (take l.page-index l.pages))
