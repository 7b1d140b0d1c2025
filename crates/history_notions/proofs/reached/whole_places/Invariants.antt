use Rattle.std.proofs.Common.{◌≡◌, take, filter}
use Rattle.history_notions.specs.Reach.{is_whole}
use Rattle.history_notions.proofs.reached.whole_places.Given as goal

abbrev pub invariant-loop-place : goal.invariant-loop-place
invariant-loop-place l = l.found ≡ filter (is_whole l.builds l.endings) (take l.place-index l.places)
