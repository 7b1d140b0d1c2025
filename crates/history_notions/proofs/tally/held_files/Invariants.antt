use Rattle.std.proofs.Common.{◌≡◌, take, filter}
use Rattle.history_notions.specs.Chosen.{items_at}
use Rattle.history_notions.specs.Placed.{holds_some}
use Rattle.history_notions.proofs.tally.held_files.Given as goal

abbrev pub invariant-loop-place : goal.invariant-loop-place
invariant-loop-place l = items_at l.pages l.places ≡ filter (holds_some l.pages l.builds l.list) (take l.place l.pages)
