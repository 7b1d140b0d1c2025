use Rattle.std.proofs.Common.{◌≡◌, take, filter}
use Rattle.history_notions.specs.Reach.{is_reached_in}
use Rattle.history_notions.proofs.reached.reached_from.Given as goal

abbrev pub invariant-loop-piece : goal.invariant-loop-piece
invariant-loop-piece l = l.found ≡ filter (is_reached_in l.granted l.builds l.places) (take l.piece-index l.pieces)
