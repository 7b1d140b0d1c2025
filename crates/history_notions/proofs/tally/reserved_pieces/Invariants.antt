use Rattle.std.proofs.Common.{◌≡◌, take}
use Rattle.history_notions.specs.Placed.{reserved_pieces}
use Rattle.history_notions.proofs.tally.reserved_pieces.Given as goal

abbrev pub invariant-loop-piece : goal.invariant-loop-piece
invariant-loop-piece l = l.found ≡ reserved_pieces l.pages l.builds (take l.piece-index l.list)
