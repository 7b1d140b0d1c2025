use Rattle.std.proofs.Common.{◌≡◌, take, filter}
use Rattle.history_notions.specs.Chosen.{items_at}
use Rattle.history_notions.specs.Missing.{is_waiting_in}
use Rattle.history_notions.proofs.waits.waiting_places.Given as goal

abbrev pub invariant-loop-place : goal.invariant-loop-place
invariant-loop-place l = items_at l.builds l.places ≡ filter (is_waiting_in l.endings l.granted) (take l.place l.builds)
