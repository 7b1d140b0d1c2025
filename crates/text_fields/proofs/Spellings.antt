-- No two values of a kind have one spelling.
use Rattle.std.proofs.Common.{◌≡◌, ℕ, zero, suc, ◌<◌, ◌^◌, List, [], ◌∷◌, Option, Some, None, IfSome, All, Result, Ok, length, get_or, decimal, refl, sym, ap, ◌∙◌, inl, arith}
use Rattle.std.specs.Prelude.{ℤ, pos, negsuc, FitsSigned, codes}
use lib.Signed.{mag}
use Rattle.std.specs.Fmt.{signed_decimal}
use Rattle.std.specs.Int.{to_be_bytes, from_be_bytes, byte_at, bytes_high_first, w64, w128}
use Rattle.std.proofs.lemmas.Fmt.{decimal_injective, decimal_is_IsNumeral, decimal_nonempty, signed_decimal_injective}
use Rattle.std.proofs.lemmas.List.Elements.{All-cons, All-nil}
use Rattle.std.proofs.lemmas.Str.Parse.{digit_at}
use Rattle.uuid.specs.Text.{lower, parsed}
use Rattle.uuid.proofs.RoundTrips.{parses_hyphenated}
use Rattle.uuid.proofs.OrderLemmas.{from_be_bytes-to_be_bytes_16}
use Rattle.hex.specs.Hex.{IsBytes, decode_of, encode_lower, lower_digits}
use Rattle.hex.proofs.HexLemmas.{decode_of-encode_lower, length-encode_with}
use Rattle.blob_words.specs.BlobName.{name_text}
use Rattle.text_fields.specs.Fields.{hex_text, len_text, place_text}
use Rattle.text_fields.proofs.Numbers.{signed_small}

pub same_32 : (m n : ℕ) → m < 2 ^ 32 → n < 2 ^ 32 → decimal m ≡ decimal n → m ≡ n
same_32 m n fits less same = decimal_injective m n (omega arith) (omega arith) same

byte_fits : (place number : ℕ) → byte_at place number < 256
byte_fits zero number = omega arith
byte_fits (suc place) number = omega arith

bytes_fit : (count number : ℕ) → All (λ b. b < 256) (bytes_high_first count number)
bytes_fit zero number = All-nil (λ b. b < 256)
bytes_fit (suc count) number = All-cons (λ b. b < 256) _ _ (byte_fits count number) (bytes_fit count number)

some_back : {A : Type 0} (x y : A) → Some x ≡ Some y → x ≡ y
some_back x y e = cc

parses_name : (number : ℕ) → Some (to_be_bytes w128 number) ≡ parsed (name_text number)
parses_name number = parses_hyphenated lower (to_be_bytes w128 number) (inl refl) refl (bytes_fit 16 number)

pub same_name : (m n : ℕ) → m < 2 ^ 128 → n < 2 ^ 128 → name_text m ≡ name_text n → m ≡ n
same_name m n fits less same =
    let bytes : to_be_bytes w128 m ≡ to_be_bytes w128 n = some_back _ _ (parses_name m ∙ ap parsed same ∙ sym (parses_name n)) in
    sym (from_be_bytes-to_be_bytes_16 m fits) ∙ ap (from_be_bytes w128) bytes ∙ from_be_bytes-to_be_bytes_16 n less

ok_back : {E : Type 0} (x y : List ℕ) → (let r : Result (List ℕ) E = Ok x in r) ≡ Ok y → x ≡ y
ok_back x y e = cc

-- digits of some bytes are no dash
no_dash : (byte : ℕ) (bytes : List ℕ) → codes "-" ≡ encode_lower (byte ∷ bytes) → ⊥
no_dash byte bytes same = let len = length-encode_with lower_digits (byte ∷ bytes) in omega (arith, len, ap length same)

pub same_hex : (xs ys : List ℕ) → IsBytes xs → IsBytes ys → hex_text xs ≡ hex_text ys → xs ≡ ys
same_hex [] [] fits less same = refl
same_hex [] (y ∷ ys) fits less same = absurd (no_dash y ys same)
same_hex (x ∷ xs) [] fits less same = absurd (no_dash x xs (sym same))
same_hex (x ∷ xs) (y ∷ ys) fits less same =
    ok_back _ _ (sym (decode_of-encode_lower (x ∷ xs) fits) ∙ ap decode_of same ∙ decode_of-encode_lower (y ∷ ys) less)

-- no number is spelled `_`
blank_apart : (n : ℕ) → n < 2 ^ 64 → codes "_" ≡ decimal n → ⊥
blank_apart n fits same =
    let numeral = decimal_is_IsNumeral n fits in
    let digit = digit_at (decimal n) 0 numeral.0.1 (decimal_nonempty n fits) in
    let first : 95 ≡ get_or (decimal n) 0 0 = ap (λ (t : List ℕ). get_or t 0 0) same in
    omega (arith, digit.1, first)

pub below : (n most : ℕ) → n < most → most < 2 ^ 64 → n < 2 ^ 64
below n most low fits = omega arith

minus_apart : (text : List ℕ) → codes "_" ≡ 45 ∷ text → ⊥
minus_apart text same = cc same

signed_apart : (z : ℤ) → mag z < 2 ^ 63 → codes "_" ≡ signed_decimal z → ⊥
signed_apart (pos n) small same = blank_apart n (below n (2 ^ 63) small (omega arith)) same
signed_apart (negsuc n) small same = minus_apart (decimal (suc n)) same

pub same_len : (m n : Option ℕ) → IfSome m (λ k. k < 2 ^ 64) → IfSome n (λ k. k < 2 ^ 64) → len_text m ≡ len_text n → m ≡ n
same_len None None fits less same = refl
same_len None (Some n) fits less same = absurd (blank_apart n less same)
same_len (Some m) None fits less same = absurd (blank_apart m fits (sym same))
same_len (Some m) (Some n) fits less same = ap Some (decimal_injective m n fits less same)

pub same_place : (y z : Option ℤ) → IfSome y (λ k. FitsSigned w64 k) → IfSome z (λ k. FitsSigned w64 k) → place_text y ≡ place_text z → y ≡ z
same_place None None fits less same = refl
same_place None (Some z) fits less same = absurd (signed_apart z (signed_small z less) same)
same_place (Some y) None fits less same = absurd (signed_apart y (signed_small y fits) (sym same))
same_place (Some y) (Some z) fits less same = ap Some (signed_decimal_injective y z (signed_small y fits) (signed_small z less) same)
