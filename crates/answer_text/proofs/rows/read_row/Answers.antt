use Rattle.std.proofs.Common.{sym, subst}
use Rattle.text_fields.specs.Kind.{AllSpell}
use Rattle.answer_text.specs.Fault.{Refuses}
use Rattle.answer_text.proofs.RowLemmas.{row_refused}
use Rattle.answer_text.proofs.rows.read_row.Goals as goal

pub returns-in-Err : goal.returns-in-Err
returns-in-Err g c =
    subst (Refuses (AllSpell g.R.Row.kinds) c.args.fields.now) (sym c.form_of.ensures)
    (row_refused g.R.Row.kinds c.in-Err.fault c.args.fields.now c.in-Err.ensures)
