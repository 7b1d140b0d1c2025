use Rattle.std.proofs.Common.{sym, ap, ◌∙◌, subst, decimal, refl}
use Rattle.std.specs.Str.{IsUtf8}
use Rattle.std.proofs.lemmas.Bool.{both_ways}
use Rattle.std.proofs.lemmas.Fmt.{IsAscii-decimal, parse-decimal}
use Rattle.std.proofs.lemmas.Str.{IsUtf8-from_ascii}
use Rattle.text_fields.specs.Kind.{Spells, number_64}
use Rattle.text_fields.specs.Reading.{is_plain_number}
use Rattle.text_fields.proofs.Numbers.{decimal_from_plain, plain_decimal}
use Rattle.text_fields.proofs.field.number.read_number.Goals as goal

pub returns-then-not-is_plain_number : goal.returns-then-not-is_plain_number
returns-then-not-is_plain_number c = (
  λ (s : Spells number_64 c.args.text.now). both_ways _ c.if-not-is_plain_number.true
      (c.is_plain_number.ensures ∙ ap is_plain_number s.2 ∙ plain_decimal s.0 s.1),
  refl,
)

pub returns-in_default : goal.returns-in_default
returns-in_default c = (
  λ (s : Spells number_64 c.args.text.now). c.in_default.ensures.cases.0
      (subst IsUtf8 (sym s.2) (IsUtf8-from_ascii (decimal s.0) (IsAscii-decimal s.0 s.1))),
  refl,
)

pub returns-in-Ok-parse : goal.returns-in-Ok-parse
returns-in-Ok-parse c =
    let text = c.in-Ok.ensures.cases.0 in
    let told = c.in-Ok-parse.ensures.value.0 in
    let plain = ap is_plain_number text ∙ sym c.is_plain_number.ensures ∙ c.if-not-is_plain_number.false in
    let number = decimal_from_plain c.in-Ok.digits.now c.in-Ok-parse.number plain told.0.0 told.0.1 told.1 in
    (number.0, sym text ∙ number.1)

pub returns-in-Err : goal.returns-in-Err
returns-in-Err c = (
  λ (s : Spells number_64 c.args.text.now).
      let text = c.in-Ok.ensures.cases.0 ∙ s.2 in
      let parsed = parse-decimal 64 s.0 c.in-Ok.digits.now c.parse.result s.1 s.1 text c.parse.ensures.value.0 in
      cc (parsed, c.in-Err.is),
  refl,
)
