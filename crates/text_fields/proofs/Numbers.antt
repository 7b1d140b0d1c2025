-- The text of a number is plain digits, and plain digits are the text of their number.
use Rattle.std.proofs.Common.{◌≡◌, ◌≢◌, ℕ, ℤ, FitsSigned, ◌<◌, ◌^◌, not, true, List, length, get_or, decimal, eqb, sym, ap, ◌∙◌, inl, inr, arith}
use Rattle.std.specs.Int.{w64}
use Rattle.std.specs.Str.Parse.{AllDigits, IsNumeral, digits_value, without_leading_plus}
use lib.Signed.{mag}
use Rattle.std.proofs.lemmas.Bool.{and_parts, cases_eq, eqb-false, not-true}
use Rattle.std.proofs.lemmas.Bool.Decides.{nat_tests}
use Rattle.std.proofs.lemmas.Fmt.{decimal_digit, decimal-digits_value, first_decimal}
use Rattle.std.proofs.lemmas.Str.Parse.{IsNumeralModel, numerals_by_value, tells_digits, without_leading_plus_none}
use Rattle.text_fields.specs.Reading.{is_plain_number}

own : IsNumeralModel (AllDigits 10) (digits_value 10)
own = numerals_by_value (AllDigits 10) tells_digits

plain_from_first : (text : List ℕ) → 48 < get_or text 0 0 → is_plain_number text ≡ true
plain_from_first text high = grind (arith, nat_tests)

-- the digits of a number have no sign and no needless zero
pub plain_decimal : (n : ℕ) → n < 2 ^ 64 → is_plain_number (decimal n) ≡ true
plain_decimal n fits =
    elim (cases_eq n 0) [
      | inl none ↦ rw none (ap is_plain_number (decimal_digit 0 (omega arith)))
      | inr some ↦ plain_from_first (decimal n) (first_decimal n (omega arith) fits)
    ]

no_sign : (text : List ℕ) → is_plain_number text ≡ true → get_or text 0 0 ≢ 43
no_sign text plain = eqb-false _ 43 (not-true _ (and_parts (not (eqb (get_or text 0 0) 43)) _ plain).0)

one_zero : (text : List ℕ) → is_plain_number text ≡ true → get_or text 0 0 ≡ 48 → length text ≡ 1
one_zero text plain zero_first = grind (arith, nat_tests)

-- plain digits are the text of the number that they parse to
pub decimal_from_plain : (text : List ℕ) (n : ℕ) → is_plain_number text ≡ true
    → IsNumeral 10 (without_leading_plus text) → digits_value 10 (without_leading_plus text) < 2 ^ 64
    → n ≡ digits_value 10 (without_leading_plus text) → (n < 2 ^ 64) × (text ≡ decimal n)
decimal_from_plain text n plain numeral fits value =
    let same = without_leading_plus_none text (no_sign text plain) in
    let digits = rw same at numeral in
    let small = rw same at fits in
    let number : n ≡ digits_value 10 text = value ∙ ap (digits_value 10) same in
    (rw number small, sym (ap decimal number ∙ decimal-digits_value own text digits.1 digits.0 (one_zero text plain) small))

-- a signed number of 64 bits has at most 63 bits beside its sign
pub signed_small : (z : ℤ) → FitsSigned w64 z → mag z < 2 ^ 63
signed_small z fits = fits.sfits
