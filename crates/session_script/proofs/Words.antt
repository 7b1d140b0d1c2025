-- No two words have one text, and no two letters.
use Rattle.std.proofs.Common.{◌≡◌, true, Some, refl}
use Rattle.std.specs.Prelude.{nat_le, ◌&&◌, ◌||◌}
use Rattle.std.specs.List.{list_all}
use Rattle.session_script.specs.Word.{word_text, letter_text}
use Rattle.session_script.specs.declared.letter.Letter.{Letter}
use Rattle.session_script.specs.declared.letter.Letter.TheVariants as letters
use Rattle.session_script.specs.declared.word.Word.{Word}
use Rattle.session_script.specs.declared.word.Word.TheVariants as words
use Rattle.session_script.specs.declared.letter.TheConstants.{LETTERS}
use Rattle.session_script.specs.declared.word.TheConstants.{WORDS}
use Rattle.text_fields.specs.Keyword.{look_up}
use Rattle.text_fields.proofs.Keywords.{same_by_text}

pub word_found : (word : Word) → look_up word_text WORDS (word_text word) ≡ Some word
word_found words.Limits = refl
word_found word = refl

pub same_word : (w v : Word) → word_text w ≡ word_text v → w ≡ v
same_word w v same = same_by_text word_text WORDS word_found w v same

pub letter_found : (letter : Letter) → look_up letter_text LETTERS (letter_text letter) ≡ Some letter
letter_found letters.Embedded = refl
letter_found letter = refl

pub same_letter : (k l : Letter) → letter_text k ≡ letter_text l → k ≡ l
same_letter k l same = same_by_text letter_text LETTERS letter_found k l same

-- the bytes of words and letters are visible, and none is a colon
pub word_plain : (word : Word) → list_all (λ byte. nat_le 59 byte || (nat_le 48 byte && nat_le byte 57)) (word_text word) ≡ true
word_plain words.Limits = refl
word_plain word = refl

pub letter_plain : (letter : Letter) → list_all (λ byte. nat_le 59 byte || (nat_le 48 byte && nat_le byte 57)) (letter_text letter) ≡ true
letter_plain letters.Embedded = refl
letter_plain letter = refl
