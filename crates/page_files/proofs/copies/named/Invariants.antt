use Rattle.std.proofs.Common.{◌≡◌, map, take}
use Rattle.page_files.specs.Pieces.{named}
use Rattle.page_files.proofs.copies.named.Given as goal

abbrev pub invariant-loop-piece : goal.invariant-loop-piece
invariant-loop-piece l = l.list.items ≡ map named (take l.piece-index l.pieces)
