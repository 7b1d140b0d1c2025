use Rattle.std.proofs.Common.{sym, ◌∙◌, refl, arith}
use Rattle.std.proofs.lemmas.Fmt.{decimal_injective}
use Rattle.text_fields.specs.Kind.{Spells, number_32}
use Rattle.text_fields.proofs.field.number.read_number_32.Goals as goal

pub returns-then-number-from : goal.returns-then-number-from
returns-then-number-from c = (
  λ (s : Spells number_32 c.args.text.now).
      let equal = decimal_injective s.0 c.in-Ok.number (omega arith) c.in-Ok.ensures.0 (sym s.2 ∙ c.in-Ok.ensures.1) in
      omega (arith, equal),
  refl,
)

pub returns-in-Err : goal.returns-in-Err
returns-in-Err c = (λ (s : Spells number_32 c.args.text.now). c.in-Err.ensures.0 (s.0, omega arith, s.2), refl)
