-- The text of a blob's name has 36 bytes and parses to the bytes of its number, so no two numbers have one text.
use Rattle.std.proofs.Common.{◌≡◌, ℕ, zero, suc, ◌<◌, ◌^◌, List, Some, All, length, refl, sym, ap, ◌∙◌, inl, arith}
use Rattle.std.proofs.lemmas.List.Elements.{All-cons, All-nil}
use Rattle.std.specs.Int.{to_be_bytes, from_be_bytes, byte_at, bytes_high_first, w128}
use Rattle.uuid.specs.Text.{lower, parsed}
use Rattle.uuid.proofs.RoundTrips.{parses_hyphenated}
use Rattle.uuid.proofs.OrderLemmas.{from_be_bytes-to_be_bytes_16}
use Rattle.uuid.proofs.TextLemmas.{by_index_length}
use Rattle.blob_words.specs.BlobName.{name_text}

pub length_name_text : (number : ℕ) → length (name_text number) ≡ 36
length_name_text number = by_index_length 36 _

byte_fits : (place number : ℕ) → byte_at place number < 256
byte_fits zero number = omega arith
byte_fits (suc place) number = omega arith

bytes_fit : (count number : ℕ) → All (λ b. b < 256) (bytes_high_first count number)
bytes_fit zero number = All-nil (λ b. b < 256)
bytes_fit (suc count) number = All-cons (λ b. b < 256) _ _ (byte_fits count number) (bytes_fit count number)

pub parses_name : (number : ℕ) → Some (to_be_bytes w128 number) ≡ parsed (name_text number)
parses_name number = parses_hyphenated lower (to_be_bytes w128 number) (inl refl) refl (bytes_fit 16 number)

some_back : {A : Type 0} (x y : A) → Some x ≡ Some y → x ≡ y
some_back x y e = cc

-- the number that a text of a name parses to
pub number_of_name : (number : ℕ) (bytes : List ℕ) → number < 2 ^ 128 → Some bytes ≡ parsed (name_text number) → from_be_bytes w128 bytes ≡ number
number_of_name number bytes fits is_parsed =
    let same : bytes ≡ to_be_bytes w128 number = some_back _ _ (is_parsed ∙ sym (parses_name number)) in
    ap (from_be_bytes w128) same ∙ from_be_bytes-to_be_bytes_16 number fits
