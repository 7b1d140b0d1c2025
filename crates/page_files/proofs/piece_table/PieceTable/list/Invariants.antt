use Rattle.std.proofs.Common.{◌≡◌, ◌++◌}
use Rattle.page_files.specs.Places.{pieces_in}
use Rattle.page_files.proofs.piece_table.PieceTable.list.Given as goal

-- the pieces so far, and those that are left
abbrev pub invariant-loop-piece : goal.invariant-loop-piece
invariant-loop-piece l =
    (goal.iterator-loop-piece).can_next l.piece-iterator × (goal.iterator-loop-piece).is_finite l.piece-iterator
    × (l.list.items ++ pieces_in l.piece-iterator ≡ l.self)
