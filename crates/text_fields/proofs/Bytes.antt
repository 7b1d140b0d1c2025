-- Which bytes the spellings of values have.
use Rattle.std.proofs.Common.{◌≡◌, ℕ, ◌<◌, ◌≤◌, ◌^◌, suc, Bool, true, false, cond, List, [], ◌∷◌, Option, Some, None, IfSome, All, decimal, refl, ◌∙◌, arith}
use Rattle.std.specs.Prelude.{nat_le, ◌&&◌, ◌||◌, ℤ, pos, negsuc, FitsSigned}
use Rattle.std.specs.Fmt.{signed_decimal}
use Rattle.std.specs.Int.{to_be_bytes, w64, w128}
use Rattle.std.specs.List.{AllPass, list_all}
use Rattle.std.proofs.lemmas.Bool.{and_parts, leb-true}
use Rattle.std.proofs.lemmas.Bool.Decides.{nat_tests}
use Rattle.std.proofs.lemmas.Fmt.{decimal_is_IsNumeral}
use Rattle.std.proofs.lemmas.List.Elements.{All-cons, All-head, All-nil, All-tail, All-from_get_or}
use Rattle.std.proofs.lemmas.Str.Parse.{digit_at}
use Rattle.uuid.specs.Text.{by_index, hex_digit, nibble, digit_place, is_hyphen_place, lower}
use Rattle.uuid.proofs.TextLemmas.{by_index_at, by_index_length, nibble_small}
use Rattle.hex.specs.Hex.{IsBytes, encode_lower}
use Rattle.hex_lanes.specs.Digits.{is_lower_digit}
use Rattle.hex_lanes.proofs.Spelling.{AllPass-encode_lower, digit_holds}
use Rattle.blob_words.specs.BlobName.{name_text}
use Rattle.text_fields.specs.Fields.{hex_text, len_text, place_text}
use Rattle.text_fields.proofs.Numbers.{signed_small}

-- what holds of the digits in lower case, and of `-` and `_`
pub record OfDigits (P : ℕ → Type 0) : Type 0 where
  pub digit : (c : ℕ) → 48 ≤ c → c ≤ 57 → P c
  pub letter : (c : ℕ) → 97 ≤ c → c ≤ 102 → P c
  pub dash : P 45
  pub blank : P 95

pub decimal_all : (P : ℕ → Type 0) → OfDigits P → (n : ℕ) → n < 2 ^ 64 → All P (decimal n)
decimal_all P of n fits =
    let numeral = decimal_is_IsNumeral n fits in
    All-from_get_or P (decimal n) 0 (λ i lt. let d = digit_at (decimal n) i numeral.0.1 lt in of.digit _ d.0 d.1)

lower_one : (P : ℕ → Type 0) → OfDigits P → (c : ℕ) → (b d : Bool) → (nat_le 48 c && nat_le c 57) ≡ b → (nat_le 97 c && nat_le c 102) ≡ d → (b || d) ≡ true
    → P c
lower_one P of c true d number letter h = let p = and_parts _ _ number in of.digit c (leb-true 48 c p.0) (leb-true c 57 p.1)
lower_one P of c false d number letter h = let p = and_parts _ _ (letter ∙ h) in of.letter c (leb-true 97 c p.0) (leb-true c 102 p.1)

lower_all : (P : ℕ → Type 0) → OfDigits P → (text : List ℕ) → AllPass is_lower_digit text → All P text
lower_all P of [] all = All-nil P
lower_all P of (c ∷ text) all =
    All-cons P c text (lower_one P of c _ _ refl refl (All-head digit_holds c text all)) (lower_all P of text (All-tail digit_holds c text all))

pub hex_all : (P : ℕ → Type 0) → OfDigits P → (bytes : List ℕ) → IsBytes bytes → All P (hex_text bytes)
hex_all P of [] fits = All-cons P 45 [] of.dash (All-nil P)
hex_all P of (byte ∷ bytes) fits = lower_all P of (encode_lower (byte ∷ bytes)) (AllPass-encode_lower (byte ∷ bytes) fits)

letter_fits : (c : ℕ) → c < 16 → is_lower_digit (hex_digit lower c) ≡ true
letter_fits c small = grind (arith, nat_tests)

name_byte : (P : ℕ → Type 0) → OfDigits P → (hyphen : Bool) (c : ℕ) → c < 16 → P (cond hyphen 45 (hex_digit lower c))
name_byte P of true c small = of.dash
name_byte P of false c small = lower_one P of (hex_digit lower c) _ _ refl refl (letter_fits c small)

pub name_all : (P : ℕ → Type 0) → OfDigits P → (number : ℕ) → All P (name_text number)
name_all P of number =
    let bytes = to_be_bytes w128 number in
    let at : ℕ → ℕ = λ k. cond (is_hyphen_place k) 45 (hex_digit lower (nibble bytes (digit_place k))) in
    All-from_get_or P (by_index 36 at) 0 (λ i within.
    let place : i < 36 = omega (arith, by_index_length 36 at) in
    rw (by_index_at 36 at i 0 place) (name_byte P of (is_hyphen_place i) _ (nibble_small bytes (digit_place i))))

pub len_all : (P : ℕ → Type 0) → OfDigits P → (value : Option ℕ) → IfSome value (λ n. n < 2 ^ 64) → All P (len_text value)
len_all P of None fits = All-cons P 95 [] of.blank (All-nil P)
len_all P of (Some n) fits = decimal_all P of n fits

signed_all : (P : ℕ → Type 0) → OfDigits P → (z : ℤ) → FitsSigned w64 z → All P (signed_decimal z)
signed_all P of (pos n) fits = let small = signed_small (pos n) fits in decimal_all P of n (omega arith)
signed_all P of (negsuc n) fits =
    let small = signed_small (negsuc n) fits in All-cons P 45 (decimal (suc n)) of.dash (decimal_all P of (suc n) (omega arith))

pub place_all : (P : ℕ → Type 0) → OfDigits P → (value : Option ℤ) → IfSome value (λ z. FitsSigned w64 z) → All P (place_text value)
place_all P of None fits = All-cons P 95 [] of.blank (All-nil P)
place_all P of (Some z) fits = signed_all P of z fits

-- the bytes that a test lets pass
pub tested_all : (P : ℕ → Type 0) (test : ℕ → Bool) → ((c : ℕ) → test c ≡ true → P c) → (text : List ℕ) → list_all test text ≡ true → All P text
tested_all P test pass [] all = All-nil P
tested_all P test pass (c ∷ text) all =
    let parts = and_parts (test c) (list_all test text) all in
    All-cons P c text (pass c parts.0) (tested_all P test pass text parts.1)
