-- The text of a name by its form: 36 bytes, hyphens in their places and digits in all others; each such text is one number's.
use Rattle.std.proofs.Common.{◌≡◌, ℕ, zero, suc, ◌+◌, ◌*◌, ◌/◌, ◌%◌, ◌^◌, ◌<◌, ◌≤◌, ◌==◌, ◌&&◌, ◌||◌, Bool, true, false, not, List, [], ◌∷◌, length, get_or, slice_index, if◌then◌else◌, refl, sym, ap, ◌∙◌, subst, arith, true≢false}
use Rattle.std.proofs.lemmas.Bool.Decides.{nat_tests}
use Rattle.std.proofs.lemmas.List.{get_or_default}
use Rattle.std.proofs.Math.Nat.{mul-add-div_right, mul-add-mod_self_right, mul-le-mul_right, pow-suc}
use Rattle.std.proofs.lemmas.Nat.{div-mul-add}
use Rattle.std.specs.List.{list_all, enumerate_from}
use Rattle.std.specs.Int.{to_be_bytes, bytes_high_first, byte_at, w128}
use Rattle.uuid.specs.Text.{by_index, hex_digit, nibble, lower, value_of, byte_of_digits, digits_of, hyphen_place, digit_place, hyphenated_text, is_hyphen_place as has_hyphen}
use Rattle.uuid.proofs.TextLemmas.{by_index_length, by_index_at, by_index_same, nibble_even, nibble_odd, nibble_small}
use Rattle.blob_words.specs.BlobName.{name_text}
use Rattle.blob_model.specs.Entries.{is_name_byte, is_name_digit, is_name_text}
use Rattle.store_laws.specs.UrlForms.{HasName}

-- ---- tests at all places

pub both : (b c : Bool) → (b && c) ≡ true → (b ≡ true) × (c ≡ true)
both true true e = (refl, refl)
both true false e = absurd (true≢false (sym e))
both false c e = absurd (true≢false (sym e))

pub join : (b c : Bool) → b ≡ true → c ≡ true → (b && c) ≡ true
join b c e f = rw (e, f) refl

none : (from : ℕ) → from + 0 ≡ from
none from = omega arith

plain : (k : ℕ) → k ≡ 0 + k
plain k = omega arith

at_each : (test : ℕ × ℕ → Bool) (from : ℕ) (text : List ℕ) → list_all test (enumerate_from from text) ≡ true → (k : ℕ) → k < length text
    → test (from + k, get_or text k 0) ≡ true
at_each test from [] e k within = absurd (omega arith)
at_each test from (byte ∷ text) e zero within =
    ap (λ (place : ℕ). test (place, byte)) (none from) ∙ (both (test (from, byte)) (list_all test (enumerate_from (from + 1) text)) e).0
at_each test from (byte ∷ text) e (suc k) within =
    let rest = (both (test (from, byte)) (list_all test (enumerate_from (from + 1) text)) e).1 in
    let same : from + suc k ≡ from + 1 + k = omega arith in
    ap (λ (place : ℕ). test (place, get_or text k 0)) same ∙ at_each test (from + 1) text rest k (omega arith)

from_each : (test : ℕ × ℕ → Bool) (from : ℕ) (text : List ℕ) → ((k : ℕ) → k < length text → test (from + k, get_or text k 0) ≡ true)
    → list_all test (enumerate_from from text) ≡ true
from_each test from [] each = refl
from_each test from (byte ∷ text) each =
    join (test (from, byte)) (list_all test (enumerate_from (from + 1) text))
    (ap (λ (place : ℕ). test (place, byte)) (sym (none from)) ∙ each zero (omega arith))
    (from_each test (from + 1) text (λ k within.
    let same : from + 1 + k ≡ from + suc k = omega arith in
    ap (λ (place : ℕ). test (place, get_or text k 0)) same ∙ each (suc k) (omega arith)))

-- ---- the number of bytes

abbrev value : List ℕ → ℕ
value [] = 0
value (byte ∷ bytes) = byte * 256 ^ length bytes + value bytes

power_above : (n : ℕ) → 0 < 256 ^ n
power_above zero = omega arith
power_above (suc n) = let more = power_above n in omega (arith, more)

value_fits : (bytes : List ℕ) → ((k : ℕ) → k < length bytes → get_or bytes k 0 < 256) → value bytes < 256 ^ length bytes
value_fits [] fits = omega arith
value_fits (byte ∷ bytes) fits =
    let first : byte < 256 = fits zero (omega arith) in
    let rest = value_fits bytes (λ k within. fits (suc k) (omega arith)) in
    subst (λ (n : ℕ). byte * 256 ^ length bytes + value bytes < n) (sym (pow-suc 256 (length bytes)))
    (below byte (256 ^ length bytes) (value bytes) first rest)
  where
    most_of : (b : ℕ) → b < 256 → b ≤ 255
    most_of b small = omega arith

    below : (b p v : ℕ) → b < 256 → v < p → b * p + v < p * 256
    below b p v small under = let most : b * p ≤ 255 * p = mul-le-mul_right p (most_of b small) in omega (arith, most)

-- bytes below a place are those of what stands below it
byte_below : (n m r : ℕ) → byte_at n (m * 256 ^ suc n + r) ≡ byte_at n r
byte_below zero m r = mul-add-mod_self_right m 256 r
byte_below (suc n) m r =
    let p = 256 ^ suc n in
    let more : 256 ^ suc (suc n) ≡ p * 256 = pow-suc 256 (suc n) in
    let same : m * 256 ^ suc (suc n) + r ≡ m * 256 * p + r = ap (λ (x : ℕ). m * x + r) more ∙ (omega arith) in
    ap (λ (x : ℕ). x / p % 256) same ∙ ap (λ (x : ℕ). x % 256) (mul-add-div_right (power_above (suc n)) (m * 256) r)
    ∙ mul-add-mod_self_right m 256 (r / p)

bytes_below : (n m r : ℕ) → bytes_high_first n (m * 256 ^ n + r) ≡ bytes_high_first n r
bytes_below zero m r = refl
bytes_below (suc n) m r =
    let same : m * 256 ^ suc n + r ≡ m * 256 * 256 ^ n + r = ap (λ (x : ℕ). m * x + r) (pow-suc 256 n) ∙ (omega arith) in
    ap (λ (first : ℕ). first ∷ bytes_high_first n (m * 256 ^ suc n + r)) (byte_below n m r)
    ∙ ap (λ (x : ℕ). byte_at n r ∷ bytes_high_first n x) same ∙ ap (λ (rest : List ℕ). byte_at n r ∷ rest) (bytes_below n (m * 256) r)

byte_on_top : (n b r : ℕ) → b < 256 → r < 256 ^ n → byte_at n (b * 256 ^ n + r) ≡ b
byte_on_top zero b r small under = omega arith
byte_on_top (suc n) b r small under =
    ap (λ (x : ℕ). x % 256) (div-mul-add b (256 ^ suc n) r under) ∙ (omega arith)

bytes_of_value : (bytes : List ℕ) → ((k : ℕ) → k < length bytes → get_or bytes k 0 < 256) → bytes_high_first (length bytes) (value bytes) ≡ bytes
bytes_of_value [] fits = refl
bytes_of_value (byte ∷ bytes) fits =
    let smaller : (k : ℕ) → k < length bytes → get_or bytes k 0 < 256 = λ k within. fits (suc k) (omega arith) in
    ap (λ (first : ℕ). first ∷ bytes_high_first (length bytes) (byte * 256 ^ length bytes + value bytes))
    (byte_on_top (length bytes) byte (value bytes) (fits zero (omega arith)) (value_fits bytes smaller))
    ∙ ap (λ (rest : List ℕ). byte ∷ rest) (bytes_below (length bytes) byte (value bytes) ∙ bytes_of_value bytes smaller)

-- ---- digits

digit_fits : (c : ℕ) → is_name_digit c ≡ true → (value_of c < 16) × (hex_digit lower (value_of c) ≡ c)
digit_fits c is = (grind (arith, nat_tests), grind (arith, nat_tests))

digit_of_value : (d : ℕ) → d < 16 → is_name_digit (hex_digit lower d) ≡ true
digit_of_value d small = grind (arith, nat_tests)

digit_there : (text : List ℕ) (k : ℕ) → is_name_byte (k, get_or text k 0) ≡ true → has_hyphen k ≡ false → is_name_digit (get_or text k 0) ≡ true
digit_there text k is free = go (has_hyphen k) free is
  where
    go : (b : Bool) → b ≡ false → ((b && get_or text k 0 == 0x2d) || (not b && is_name_digit (get_or text k 0))) ≡ true
        → is_name_digit (get_or text k 0) ≡ true
    go true e f = absurd (true≢false e)
    go false e f = f

byte_there : (text : List ℕ) (k : ℕ) → is_name_byte (k, get_or text k 0) ≡ true
    → get_or text k 0 ≡ (if has_hyphen k then 45 else hex_digit lower (value_of (get_or text k 0)))
byte_there text k is = go (has_hyphen k) is
  where
    go : (b : Bool) → ((b && get_or text k 0 == 0x2d) || (not b && is_name_digit (get_or text k 0))) ≡ true
        → get_or text k 0 ≡ (if b then 45 else hex_digit lower (value_of (get_or text k 0)))
    go true f = grind (arith, nat_tests, f)
    go false f = sym (digit_fits (get_or text k 0) f).1

-- ---- a text of that form is a name's

-- the bytes that its digits spell
abbrev spelled : List ℕ → List ℕ
spelled text = by_index 16 (byte_of_digits (digits_of text))

digit_at : (text : List ℕ) (k : ℕ) → k < 32 → slice_index (digits_of text) k ≡ slice_index text (hyphen_place k)
digit_at text k within = by_index_at 32 (λ i. slice_index text (hyphen_place i)) k 0 within

digits_fit : (text : List ℕ) → length text ≡ 36 → ((k : ℕ) → k < 36 → is_name_byte (k, get_or text k 0) ≡ true) → (k : ℕ) → k < 32
    → value_of (slice_index (digits_of text) k) < 16
digits_fit text long each k within =
    let free : has_hyphen (hyphen_place k) ≡ false = grind (arith, nat_tests) in
    let low : hyphen_place k < 36 = grind (arith, nat_tests) in
    rw (digit_at text k within) (digit_fits (get_or text (hyphen_place k) 0) (digit_there text (hyphen_place k) (each (hyphen_place k) low) free)).0

byte_spelled : (text : List ℕ) (k : ℕ) → k < 16
    → get_or (spelled text) k 0 ≡ value_of (slice_index (digits_of text) (2 * k)) * 16 + value_of (slice_index (digits_of text) (2 * k + 1))
byte_spelled text k within = by_index_at 16 (byte_of_digits (digits_of text)) k 0 within

nibble_spelled : (text : List ℕ) → ((k : ℕ) → k < 32 → value_of (slice_index (digits_of text) k) < 16) → (k : ℕ) → k < 32
    → nibble (spelled text) k ≡ value_of (slice_index (digits_of text) k)
nibble_spelled text fits k within = go (k / 2) (k % 2) (omega arith) (omega arith)
  where
    go : (half rest : ℕ) → k ≡ 2 * half + rest → rest < 2 → nibble (spelled text) k ≡ value_of (slice_index (digits_of text) k)
    go half zero is small =
        let even : k ≡ 2 * half = omega arith in
        let byte = byte_spelled text half (omega arith) in
        let high = fits (2 * half) (omega arith) in
        let low = fits (2 * half + 1) (omega arith) in
        ap (λ (n : ℕ). nibble (spelled text) n) even ∙ nibble_even (spelled text) half ∙ ap (λ (b : ℕ). b / 16 % 16) byte ∙ (omega (arith, high, low))
        ∙ ap (λ (n : ℕ). value_of (slice_index (digits_of text) n)) (sym even)
    go half (suc zero) is small =
        let byte = byte_spelled text half (omega arith) in
        let high = fits (2 * half) (omega arith) in
        let low = fits (2 * half + 1) (omega arith) in
        ap (λ (n : ℕ). nibble (spelled text) n) is ∙ nibble_odd (spelled text) half ∙ ap (λ (b : ℕ). b % 16) byte ∙ (omega (arith, high, low))
        ∙ ap (λ (n : ℕ). value_of (slice_index (digits_of text) n)) (sym is)
    go half (suc (suc rest)) is small = absurd (omega arith)

text_spelled : (text : List ℕ) → length text ≡ 36 → ((k : ℕ) → k < 36 → is_name_byte (k, get_or text k 0) ≡ true) → text ≡ hyphenated_text lower (spelled text)
text_spelled text long each =
    by_index_same text 36 (λ k. if has_hyphen k then 45 else hex_digit lower (nibble (spelled text) (digit_place k))) long
    (λ k d within. get_or_default text k d 0 (omega (arith, long)) ∙ place k within)
  where
    fits : (k : ℕ) → k < 32 → value_of (slice_index (digits_of text) k) < 16
    fits k within = digits_fit text long each k within

    other : (k : ℕ) → k < 36 → has_hyphen k ≡ false → value_of (get_or text k 0) ≡ nibble (spelled text) (digit_place k)
    other k within free =
        let low : digit_place k < 32 = grind (arith, nat_tests) in
        let back : hyphen_place (digit_place k) ≡ k = grind (arith, nat_tests) in
        sym (nibble_spelled text fits (digit_place k) low ∙ ap value_of (digit_at text (digit_place k) low)
        ∙ ap (λ (n : ℕ). value_of (slice_index text n)) back)

    by_place : (b : Bool) (k : ℕ) → k < 36 → has_hyphen k ≡ b → get_or text k 0 ≡ (if b then 45 else hex_digit lower (value_of (get_or text k 0)))
        → get_or text k 0 ≡ (if b then 45 else hex_digit lower (nibble (spelled text) (digit_place k)))
    by_place true k within is e = e
    by_place false k within is e = e ∙ ap (hex_digit lower) (other k within is)

    place : (k : ℕ) → k < 36 → get_or text k 0 ≡ (if has_hyphen k then 45 else hex_digit lower (nibble (spelled text) (digit_place k)))
    place k within = by_place (has_hyphen k) k within refl (byte_there text k (each k within))

pub name_of_form : (text : List ℕ) → is_name_text text ≡ true → HasName text
name_of_form text is =
    let parts = both (length text == 36) (list_all is_name_byte (enumerate_from 0 text)) is in
    let long : length text ≡ 36 = grind (arith, nat_tests) in
    let each : (k : ℕ) → k < 36 → is_name_byte (k, get_or text k 0) ≡ true = λ k within.
    ap (λ (place : ℕ). is_name_byte (place, get_or text k 0)) (plain k) ∙ at_each is_name_byte 0 text parts.1 k (omega (arith, long)) in
    let many : length (spelled text) ≡ 16 = by_index_length 16 (byte_of_digits (digits_of text)) in
    let fits : (k : ℕ) → k < length (spelled text) → get_or (spelled text) k 0 < 256 = λ k within.
    let low : k < 16 = omega (arith, many) in
    let high = digits_fit text long each (2 * k) (omega arith) in
    let small = digits_fit text long each (2 * k + 1) (omega arith) in
    rw (byte_spelled text k low) (omega (arith, high, small)) in
    let bound : value (spelled text) < 256 ^ 16 = subst (λ (n : ℕ). value (spelled text) < 256 ^ n) many (value_fits (spelled text) fits) in
    let back : bytes_high_first 16 (value (spelled text)) ≡ spelled text =
    ap (λ (n : ℕ). bytes_high_first n (value (spelled text))) (sym many) ∙ bytes_of_value (spelled text) fits in
    (value (spelled text), omega (arith, bound), text_spelled text long each ∙ ap (hyphenated_text lower) (sym back))

-- ---- and a name's text has that form

pub form_of_name : (name : ℕ) → is_name_text (name_text name) ≡ true
form_of_name name =
    let bytes = to_be_bytes w128 name in
    let long : length (name_text name) ≡ 36 = by_index_length 36 (λ k. if has_hyphen k then 45 else hex_digit lower (nibble bytes (digit_place k))) in
    let at : (k : ℕ) → k < 36 → get_or (name_text name) k 0 ≡ (if has_hyphen k then 45 else hex_digit lower (nibble bytes (digit_place k))) = λ k within.
    by_index_at 36 (λ k. if has_hyphen k then 45 else hex_digit lower (nibble bytes (digit_place k))) k 0 within in
    join (length (name_text name) == 36) (list_all is_name_byte (enumerate_from 0 (name_text name))) (rw long refl)
    (from_each is_name_byte 0 (name_text name) (λ k within.
    ap (λ (place : ℕ). is_name_byte (place, get_or (name_text name) k 0)) (sym (plain k))
    ∙ go k (get_or (name_text name) k 0) (nibble bytes (digit_place k)) (at k (omega (arith, long))) (nibble_small bytes (digit_place k))))
  where
    go : (k byte d : ℕ) → byte ≡ (if has_hyphen k then 45 else hex_digit lower d) → d < 16 → is_name_byte (k, byte) ≡ true
    go k byte d is small = by (has_hyphen k) byte d is small
      where
        by : (b : Bool) (byte d : ℕ) → byte ≡ (if b then 45 else hex_digit lower d) → d < 16
            → ((b && byte == 0x2d) || (not b && is_name_digit byte)) ≡ true
        by true byte d is small = rw is refl
        by false byte d is small = rw is (digit_of_value d small)
