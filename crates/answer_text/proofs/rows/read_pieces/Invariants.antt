use Rattle.std.proofs.Common.{length}
use Rattle.answer_text.proofs.RowLemmas.{AreRead}
use Rattle.answer_text.proofs.rows.read_pieces.Given as goal

abbrev pub invariant-loop-alloc : goal.invariant-loop-alloc
invariant-loop-alloc l = AreRead l.pieces l.fn.fields l.fields

abbrev pub decreases-loop-alloc : goal.decreases-loop-alloc
decreases-loop-alloc l = length l.fields
