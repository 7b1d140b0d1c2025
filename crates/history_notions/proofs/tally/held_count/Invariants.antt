use Rattle.std.proofs.Common.{◌≡◌, ◌≤◌, length, take, filter}
use Rattle.history_notions.specs.Placed.{holds_some}
use Rattle.history_notions.proofs.tally.held_count.Given as goal

abbrev pub invariant-loop-page : goal.invariant-loop-page
invariant-loop-page l = (l.count ≡ length (filter (holds_some l.pages l.builds l.list) (take l.page-index l.pages))) × (l.count ≤ l.page-index)
