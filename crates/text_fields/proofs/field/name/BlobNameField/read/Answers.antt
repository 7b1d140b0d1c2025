use Rattle.std.proofs.Common.{inr, refl}
use Rattle.text_fields.specs.Kind.{Spells, name}
use Rattle.text_fields.proofs.field.name.BlobNameField.read.Goals as goal

pub returns-in-Err : goal.returns-in-Err
returns-in-Err c = inr (λ (s : Spells name c.args.text.now). c.in-Err.ensures.form s.0 s.1 s.2, refl)
