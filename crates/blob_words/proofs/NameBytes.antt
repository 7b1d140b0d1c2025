-- The bytes of a blob's name are visible: none is a space or a line feed.
use Rattle.std.proofs.Common.{ℕ, ◌<◌, ◌≤◌, Bool, true, false, cond, All, arith}
use Rattle.std.proofs.lemmas.Bool.Decides.{nat_tests}
use Rattle.std.proofs.lemmas.List.Elements.{All-from_get_or}
use Rattle.std.specs.Int.{to_be_bytes, w128}
use Rattle.uuid.specs.Text.{by_index, hex_digit, nibble, digit_place, is_hyphen_place, lower}
use Rattle.uuid.proofs.TextLemmas.{by_index_at, by_index_length, nibble_small}
use Rattle.blob_words.specs.BlobName.{name_text}

abbrev pub IsVisible : ℕ → Type 0
IsVisible byte = 33 ≤ byte

letter_visible : (c : ℕ) → c < 16 → IsVisible (hex_digit lower c)
letter_visible c small = grind (arith, nat_tests)

place_visible : (hyphen : Bool) (c : ℕ) → IsVisible c → IsVisible (cond hyphen 45 c)
place_visible true c seen = omega arith
place_visible false c seen = seen

pub name_visible : (number : ℕ) → All IsVisible (name_text number)
name_visible number =
    let bytes = to_be_bytes w128 number in
    let at : ℕ → ℕ = λ k. cond (is_hyphen_place k) 45 (hex_digit lower (nibble bytes (digit_place k))) in
    All-from_get_or IsVisible (by_index 36 at) 0 (λ i within.
    let place : i < 36 = omega (arith, by_index_length 36 at) in
    rw (by_index_at 36 at i 0 place) (place_visible (is_hyphen_place i) _ (letter_visible _ (nibble_small bytes (digit_place i)))))
