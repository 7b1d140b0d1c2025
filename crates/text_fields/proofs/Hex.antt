-- The texts of bytes: `-`, or digits in lower case.
use Rattle.std.proofs.Common.{◌≡◌, ℕ, ◌%◌, ◌<◌, ◌≤◌, ◌==◌, Bool, false, List, [], ◌∷◌, length, Ok, codes, sym, ap, subst, ◌∙◌, arith}
use Rattle.std.specs.List.{AllPass}
use Rattle.std.specs.Str.{bytes_eq}
use Rattle.std.proofs.lemmas.Bool.{both_ways, eqb-false}
use Rattle.std.proofs.lemmas.Slice.Eq.{bytes_eq-Decides}
use Rattle.hex.specs.Hex.{IsBytes, decode_of, encode_lower, lower_digits}
use Rattle.hex.proofs.HexLemmas.{decode_of-ok, length-encode_with}
use Rattle.hex_lanes.specs.Digits.{is_lower_digit}
use Rattle.hex_lanes.proofs.Spelling.{AllPass-encode_lower}
use Rattle.text_fields.specs.Fields.{hex_text}

-- digits that were read are the text of their bytes
pub text_of_read : (text bytes : List ℕ) → 0 < length text → text ≡ encode_lower bytes → decode_of text ≡ Ok bytes
    → IsBytes bytes × (text ≡ hex_text bytes)
text_of_read text [] some spelled read = absurd (omega (arith, length-encode_with lower_digits [], ap length spelled))
text_of_read text (byte ∷ bytes) some spelled read = ((decode_of-ok text (byte ∷ bytes) read).3, spelled)

-- the text of bytes that isn't `-` is pairs of digits
pub digits_of_text : (text bytes : List ℕ) → IsBytes bytes → text ≡ hex_text bytes → (text ≡ codes "-" → ⊥)
    → AllPass is_lower_digit text × (0 < length text) × (length text % 2 ≡ 0)
digits_of_text text [] fits same other = absurd (other same)
digits_of_text text (byte ∷ bytes) fits same other =
    let len = length-encode_with lower_digits (byte ∷ bytes) in (
      subst (AllPass is_lower_digit) (sym same) (AllPass-encode_lower (byte ∷ bytes) fits),
      omega (arith, len, ap length same),
      omega (arith, len, ap length same),
    )

-- what `==` says where it is false
pub not_dash : (text dash : List ℕ) (same : Bool) → same ≡ bytes_eq text dash → same ≡ false → dash ≡ codes "-" → text ≡ codes "-" → ⊥
not_dash text dash same told other is_dash e = both_ways same other (told ∙ (bytes_eq-Decides text dash).1 (e ∙ sym is_dash))

pub some_bytes : (text : List ℕ) (none : Bool) → none ≡ (length text == 0) → none ≡ false → 0 < length text
some_bytes text none told other = let apart = eqb-false (length text) 0 (sym told ∙ other) in omega (arith, apart)

-- at most 255 bytes have at most 510 digits, and more have more
pub hex_short : (value : List ℕ) → length value ≤ 255 → length (hex_text value) ≤ 510
hex_short [] few = omega arith
hex_short (byte ∷ value) few = omega (arith, length-encode_with lower_digits (byte ∷ value))

pub hex_long : (value : List ℕ) → 255 < length value → 510 < length (hex_text value)
hex_long [] many = absurd (omega arith)
hex_long (byte ∷ value) many = omega (arith, length-encode_with lower_digits (byte ∷ value))
