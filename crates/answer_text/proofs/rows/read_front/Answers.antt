use Rattle.std.proofs.Common.{sym, subst, arith}
use Rattle.answer_text.specs.Fault.{HasFront, Refuses}
use Rattle.answer_text.proofs.RowLemmas.{front_refused, front_short}
use Rattle.answer_text.proofs.rows.read_front.Goals as goal

pub returns-then-count-COUNT : goal.returns-then-count-COUNT
returns-then-count-COUNT g c =
    front_short g.R.Row.kinds c.args.fields.now (omega (arith, c.count.ensures, c.COUNT.ensures, c.if-count-COUNT.true, g.met.R.Row.counted))

pub returns-in-Err : goal.returns-in-Err
returns-in-Err g c =
    subst (Refuses (HasFront g.R.Row.kinds) c.args.fields.now) (sym c.form_of.ensures)
    (front_refused g.R.Row.kinds c.in-Err.fault c.args.fields.now c.in-Err.ensures)
