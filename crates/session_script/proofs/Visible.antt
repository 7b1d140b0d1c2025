-- The bytes of fields are visible: none is a space or a line feed, and none in a part's fields is a colon.
use Rattle.std.proofs.Common.{◌≡◌, ℕ, ◌<◌, ◌≤◌, ◌^◌, true, false, map, List, [], ◌∷◌, eqb, decimal, refl, sym, lit≤, subst, arith}
use Rattle.std.specs.Prelude.{nat_le, ◌&&◌, ◌||◌}
use Rattle.std.specs.List.{AllByRecursion, list_all}
use Rattle.std.proofs.lemmas.Bool.{and_parts, ne_eqb}
use Rattle.std.proofs.lemmas.Bool.Decides.{nat_tests}
use Rattle.std.proofs.lemmas.List.Elements.{All-append}
use Rattle.blob_words.specs.FileName.{is_file_name_byte}
use Rattle.blob_words.specs.declared.status.Status.TheVariants as statuses
use Rattle.session_script.specs.Fault.{IsPart}
use Rattle.text_fields.specs.Fields.{fields}
use Rattle.session_script.specs.Line.{letter_of, part_fields, part_text, PartHasText}
use Rattle.text_fields.specs.Reading.{split}
use Rattle.session_script.specs.Word.{word_text, letter_text}
use Rattle.session_script.specs.declared.event.Part.{Part}
use Rattle.session_script.specs.declared.event.Part.TheVariants as parts
use Rattle.session_script.specs.declared.letter.Letter.{Letter}
use Rattle.session_script.specs.declared.word.Word.{Word}
use Rattle.text_fields.proofs.Bytes.{OfDigits, decimal_all, hex_all, name_all, tested_all}
use Rattle.session_script.proofs.Parts.{part_spelled}
use Rattle.text_fields.proofs.Splits.{HasNone, split-joined}
use Rattle.session_script.proofs.Words.{word_plain, letter_plain}
use Rattle.text_fields.proofs.Visible.{AreVisible, IsVisible, all_visible, fields_visible, plain_visible}

digits_free : OfDigits (λ byte. eqb byte 58 ≡ false)
digits_free = record {
  digit = λ c low high. ne_eqb c 58 (λ same. omega arith);
  letter = λ c low high. ne_eqb c 58 (λ same. omega arith);
  dash = refl;
  blank = refl;
}

file_name_free : (c : ℕ) → is_file_name_byte c ≡ true → eqb c 58 ≡ false
file_name_free c allowed = grind (arith, nat_tests)

plain_free : (c : ℕ) → (nat_le 59 c || (nat_le 48 c && nat_le c 57)) ≡ true → eqb c 58 ≡ false
plain_free c plain = grind (arith, nat_tests)

pub word_visible : (word : Word) → AreVisible (word_text word)
word_visible word = tested_all IsVisible _ plain_visible (word_text word) (word_plain word)

letter_visible : (letter : Letter) → AreVisible (letter_text letter)
letter_visible letter = tested_all IsVisible _ plain_visible (letter_text letter) (letter_plain letter)

letter_free : (letter : Letter) → HasNone 58 (letter_text letter)
letter_free letter = tested_all (λ byte. eqb byte 58 ≡ false) _ plain_free (letter_text letter) (letter_plain letter)

decimal_free : (n : ℕ) → n < 2 ^ 64 → HasNone 58 (decimal n)
decimal_free n fits = decimal_all (λ byte. eqb byte 58 ≡ false) digits_free n fits

-- no colon stands in a part's fields
part_free : (part : Part) → PartHasText part → AllByRecursion (HasNone 58) (part_fields part)
part_free (parts.Embedded octets) fits = (hex_all (λ byte. eqb byte 58 ≡ false) digits_free octets fits, tt)
part_free (parts.Asked n) fits = (decimal_free n fits, tt)
part_free (parts.FileRange file off n stamp) fits = (
  tested_all (λ byte. eqb byte 58 ≡ false) is_file_name_byte file_name_free file (and_parts _ (list_all is_file_name_byte file) fits.0).1,
  (decimal_free off fits.1, (decimal_free n fits.2, (decimal_free stamp fits.3, tt))),
)
part_free (parts.BlobRange b off n) fits =
    (name_all (λ byte. eqb byte 58 ≡ false) digits_free b, (decimal_free off fits.1, (decimal_free n fits.2, tt)))
part_free (parts.HandleRange k off n) fits =
    (decimal_free k (omega arith), (decimal_free off fits.1, (decimal_free n fits.3, tt)))

-- the text of a part is parted at its colons into its letter and its fields
pub split-part_text : (part : Part) → PartHasText part → split 58 (part_text part) ≡ letter_text (letter_of part) ∷ part_fields part
split-part_text part fits = split-joined 58 (letter_text (letter_of part)) (part_fields part) (letter_free (letter_of part)) (part_free part fits)

pub is_part : (part : Part) → PartHasText part → IsPart (split 58 (part_text part))
is_part part fits = subst IsPart (sym (split-part_text part fits)) (letter_of part, refl, part_spelled part fits)

part_visible : (part : Part) → PartHasText part → AreVisible (part_text part)
part_visible part fits =
    All-append IsVisible (letter_text (letter_of part)) (fields 58 (part_fields part)) (letter_visible (letter_of part))
    (fields_visible 58 (part_fields part) (lit≤ tt) (all_visible _ (part_fields part) (part_spelled part fits)))

pub parts_visible : (all : List Part) → AllByRecursion PartHasText all → AllByRecursion AreVisible (map part_text all)
parts_visible [] fits = tt
parts_visible (part ∷ all) fits = (part_visible part fits.0, parts_visible all fits.1)

-- ---- spaces and line feeds
