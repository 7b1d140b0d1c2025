use Rattle.std.proofs.Common.{◌≡◌, [], ◌∷◌, Err, rules}
use Rattle.text_fields.proofs.Rows.{first_wrong}
use Rattle.text_fields.proofs.row.Tuple5Row.read.Goals as goal

pub returns-in_err-a : goal.returns-in_err-a
returns-in_err-a g c =
    let is : c.from_residual.result ≡ Err c.in_err-a.field-0.0 = search rules in
    rw is (first_wrong g.A.Field.kind (g.B.Field.kind ∷ g.C.Field.kind ∷ g.D.Field.kind ∷ g.E.Field.kind ∷ []) c.in_err-a.field-0.0 c.args.fields.now
    c.in_err-a.ensures)
