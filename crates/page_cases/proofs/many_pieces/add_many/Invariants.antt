use Rattle.page_cases.specs.Moves.{IsRow}
use Rattle.page_cases.proofs.many_pieces.add_many.Given as goal

abbrev pub invariant-loop-number : goal.invariant-loop-number
invariant-loop-number l = IsRow l.number l.shares l.pieces.items
