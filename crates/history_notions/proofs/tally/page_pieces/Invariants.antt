use Rattle.std.proofs.Common.{◌≡◌, take}
use Rattle.history_notions.specs.Placed.{page_pieces}
use Rattle.history_notions.proofs.tally.page_pieces.Given as goal

abbrev pub invariant-loop-piece : goal.invariant-loop-piece
invariant-loop-piece l = l.found ≡ page_pieces l.pages l.builds l.number (take l.piece-index l.list)
