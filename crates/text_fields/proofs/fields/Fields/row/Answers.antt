use Rattle.std.proofs.Common.{sym, ◌∙◌}
use Rattle.text_fields.proofs.Rows.{row_read}
use Rattle.text_fields.proofs.fields.Fields.row.Goals as goal

pub returns : goal.returns
returns g c =
    row_read g.R.Row.kinds g.R.Row.Fit g.R.Values.spell g.R.Row.COUNT c.args.self.now c.read.new.fields c.read.result g.met.R.Row.counted g.met.R.Row.spelled
    (sym c.count.ensures ∙ c.if-count-COUNT.false ∙ c.COUNT.ensures) c.read.ensures
