use Rattle.std.proofs.Common.{sym, ◌∙◌, refl, arith}
use Rattle.std.proofs.lemmas.Fmt.{decimal_injective}
use Rattle.text_fields.specs.Kind.{Spells, positive}
use Rattle.text_fields.proofs.field.number.read_positive.Goals as goal

pub returns-then-number-eq0 : goal.returns-then-number-eq0
returns-then-number-eq0 c = (
  λ (s : Spells positive c.args.text.now).
      let equal = decimal_injective s.0 c.in-Ok.number s.2 c.in-Ok.ensures.0 (sym s.3 ∙ c.in-Ok.ensures.1) in
      omega (arith, equal),
  refl,
)

pub returns-in-Err : goal.returns-in-Err
returns-in-Err c = (λ (s : Spells positive c.args.text.now). c.in-Err.ensures.0 (s.0, s.2, s.3), refl)
