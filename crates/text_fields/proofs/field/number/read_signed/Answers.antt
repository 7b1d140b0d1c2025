use Rattle.std.proofs.Common.{◌≡◌, ℤ, Result, Ok, FitsSigned, sym, ap, ◌∙◌, subst, refl}
use Rattle.std.specs.Fmt.{signed_decimal}
use Rattle.std.specs.Int.{w64}
use Rattle.std.specs.Str.{IsUtf8}
use Rattle.std.proofs.lemmas.Bool.{both_ways}
use Rattle.std.proofs.lemmas.Fmt.{parse-signed_decimal, IsAscii-signed}
use Rattle.std.proofs.lemmas.Int.{to_z-of_z}
use mir.Val.{to_z, of_z}
use Rattle.std.proofs.lemmas.Slice.Eq.{bytes_eq-Decides}
use Rattle.std.proofs.lemmas.Str.{IsUtf8-from_ascii}
use Rattle.text_fields.proofs.Numbers.{signed_small}
use Rattle.text_fields.proofs.field.number.read_signed.Goals as goal

same_number : {E : Type 0} (y z : ℤ) → (let r : Result ℤ E = Ok y in r) ≡ Ok z → y ≡ z
same_number y z e = cc

pub returns-in_default : goal.returns-in_default
returns-in_default c = (
  λ (z : ℤ) (fits : FitsSigned w64 z) (same : c.args.text.now ≡ signed_decimal z).
      c.in_default.ensures.cases.0 (subst IsUtf8 (sym same) (IsUtf8-from_ascii (signed_decimal z) (IsAscii-signed z (signed_small z fits)))),
  refl,
)

pub returns-else-eq : goal.returns-else-eq
returns-else-eq c = (
  λ (z : ℤ) (fits : FitsSigned w64 z) (same : c.args.text.now ≡ signed_decimal z).
      let text = c.in-Ok.ensures.cases.0 ∙ same in
      let parsed = parse-signed_decimal w64 z c.in-Ok.digits.now c.parse.result fits (signed_small z fits) text c.parse.ensures.value.0 in
      let number : c.in-Ok-parse.number ≡ z = same_number _ _ (sym c.in-Ok-parse.is ∙ parsed) in
      let printed : c.as_bytes.result.now ≡ c.args.text.now =
      c.as_bytes.ensures.value ∙ c.format.ensures.text ∙ ap (λ (y : ℤ). signed_decimal (to_z w64 (of_z w64 y))) number
      ∙ ap signed_decimal (to_z-of_z w64 z fits) ∙ sym same in
      both_ways _ c.if-eq.false (c.eq.ensures ∙ (bytes_eq-Decides _ _).1 printed),
  refl,
)

pub returns-in-Err : goal.returns-in-Err
returns-in-Err c = (
  λ (z : ℤ) (fits : FitsSigned w64 z) (same : c.args.text.now ≡ signed_decimal z).
      let text = c.in-Ok.ensures.cases.0 ∙ same in
      let parsed = parse-signed_decimal w64 z c.in-Ok.digits.now c.parse.result fits (signed_small z fits) text c.parse.ensures.value.0 in
      cc (parsed, c.in-Err.is),
  refl,
)
