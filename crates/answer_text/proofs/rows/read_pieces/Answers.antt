use Rattle.std.proofs.Common.{sym, subst}
use Rattle.answer_text.specs.Fault.{ArePieces, Refuses}
use Rattle.answer_text.proofs.RowLemmas.{piece_wrong}
use Rattle.answer_text.proofs.rows.read_pieces.Goals as goal

pub returns-in-Err : goal.returns-in-Err
returns-in-Err c =
    subst (Refuses ArePieces c.args.fields.now) (sym c.form_of.ensures)
    (piece_wrong c.loop-alloc.pieces c.in-Err.fault c.args.fields.now c.loop-alloc.fields c.loop-alloc.invariant c.in-Err.ensures)
