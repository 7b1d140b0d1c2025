-- What is wrong with a line that spells no event: exactly one fault. Own rule.
use Rattle.std.specs.Prelude.{ℕ, ◌≡◌, ◌≢◌, ◌⊎◌, ◌^◌, ◌<◌, ◌≤◌, List, [], ◌∷◌, IsSome, length, map, take, drop, decimal}
use Rattle.std.specs.List.{AllByRecursion}
use Rattle.blob_words.specs.Limits.{limit_fault}
use Rattle.text_fields.specs.Kind.{Kind, number_32, number_64, positive, len, place, name, origin, file_name, url_text, bytes, content_type, AllSpell, IsFirstFault, IsRowFault}
use Rattle.text_fields.specs.Reading.{split}
use Rattle.session_script.specs.Word.{word_text, letter_text}
use Rattle.session_script.specs.declared.letter.Letter.{Letter}
use Rattle.session_script.specs.declared.letter.Letter.TheVariants as letters
use Rattle.text_fields.specs.declared.line_fault.LineFault.{LineFault}
use Rattle.text_fields.specs.declared.line_fault.LineFault.TheVariants as faults
use Rattle.session_script.specs.declared.word.Word.{Word}
use Rattle.session_script.specs.declared.word.Word.TheVariants as words

-- the fields of a part, by its letter; a range of a data handle has at least one byte
abbrev pub kinds_of_letter : Letter → List Kind
kinds_of_letter letters.Embedded = bytes ∷ []
kinds_of_letter letters.Asked = number_64 ∷ []
kinds_of_letter letters.FileRange = file_name ∷ number_64 ∷ number_64 ∷ number_64 ∷ []
kinds_of_letter letters.BlobRange = name ∷ number_64 ∷ number_64 ∷ []
kinds_of_letter letters.HandleRange = number_32 ∷ number_64 ∷ positive ∷ []

-- the texts between the colons are those of a part
abbrev pub IsPart : List (List ℕ) → Type 0
IsPart [] = ⊥
IsPart (first ∷ own) = (letter : Letter) × (first ≡ letter_text letter) × AllSpell (kinds_of_letter letter) own

-- what is wrong with the texts between the colons: no letter in front of a colon, or else the fields behind it
abbrev pub IsPartFault : LineFault → List (List ℕ) → Type 0
IsPartFault fault [] = ⊥
IsPartFault fault (first ∷ []) = fault ≡ faults.Word
IsPartFault fault (first ∷ second ∷ own) =
    (((letter : Letter) → first ≢ letter_text letter) × (fault ≡ faults.Word))
    ⊎ ((letter : Letter) × (first ≡ letter_text letter) × IsRowFault (kinds_of_letter letter) fault (second ∷ own))

-- the first part that is none
abbrev pub IsFirstPartFault : LineFault → List (List ℕ) → Type 0
IsFirstPartFault fault [] = ⊥
IsFirstPartFault fault (text ∷ texts) = IsPartFault fault (split 58 text) ⊎ (IsPart (split 58 text) × IsFirstPartFault fault texts)

-- the seven numbers are no limits
abbrev pub AreNoLimits : List ℕ → Type 0
AreNoLimits (memory ∷ disk ∷ big ∷ inline_max ∷ segment ∷ page ∷ chunk ∷ []) = IsSome (limit_fault memory disk big inline_max segment page chunk)
AreNoLimits numbers = ⊥

-- the fields behind a word, but for those of the limits' words and of `build`
abbrev pub kinds_of : Word → List Kind
kinds_of words.Limits = number_64 ∷ number_64 ∷ number_64 ∷ number_64 ∷ number_64 ∷ number_64 ∷ number_64 ∷ []
kinds_of words.Limits2 = number_64 ∷ number_64 ∷ number_64 ∷ number_64 ∷ number_64 ∷ number_64 ∷ number_64 ∷ []
kinds_of words.Spawn = number_32 ∷ origin ∷ []
kinds_of words.Die = number_32 ∷ []
kinds_of words.File = file_name ∷ number_64 ∷ bytes ∷ []
kinds_of words.Gone = file_name ∷ []
kinds_of words.Build = number_32 ∷ name ∷ content_type ∷ []
kinds_of words.Slice = number_32 ∷ name ∷ name ∷ place ∷ place ∷ content_type ∷ []
kinds_of words.Segment = number_32 ∷ name ∷ number_32 ∷ bytes ∷ []
kinds_of words.Pass = number_32 ∷ number_32 ∷ name ∷ []
kinds_of words.Drop = number_32 ∷ name ∷ []
kinds_of words.Stat = number_32 ∷ name ∷ []
kinds_of words.Url = number_32 ∷ name ∷ url_text ∷ []
kinds_of words.Revoke = number_32 ∷ url_text ∷ []
kinds_of words.Read = number_32 ∷ number_32 ∷ name ∷ number_64 ∷ len ∷ []
kinds_of words.Fetch = number_32 ∷ number_32 ∷ url_text ∷ number_64 ∷ len ∷ []
kinds_of words.Step = number_32 ∷ []
kinds_of words.Cancel = number_32 ∷ number_32 ∷ []
kinds_of words.Disk = number_32 ∷ []
kinds_of words.Lost = number_32 ∷ []
kinds_of words.Count = []
kinds_of words.Finish = []

-- of `limits` and `limits2`: the fields, or else the numbers that they spell
abbrev pub IsLimitsFault : LineFault → List (List ℕ) → Type 0
IsLimitsFault fault texts =
    IsRowFault (kinds_of words.Limits) fault texts ⊎ ((numbers : List ℕ) × AllByRecursion (λ n. n < 2 ^ 64) numbers × (texts ≡ map decimal numbers)
    × AreNoLimits numbers × (fault ≡ faults.Limits))

-- the number of fields of a `build` line: three and at most 1,024 parts
abbrev pub IsBuildCount : List (List ℕ) → Type 0
IsBuildCount texts = (3 ≤ length texts) × (length texts ≤ 1027)

-- of `build`: the number of fields, or else the first three, or else the parts
abbrev pub IsBuildFault : LineFault → List (List ℕ) → Type 0
IsBuildFault fault texts =
    ((IsBuildCount texts → ⊥) × (fault ≡ faults.Fields)) ⊎ (IsBuildCount texts
    × (IsFirstFault (kinds_of words.Build) fault texts ⊎ (AllSpell (kinds_of words.Build) (take 3 texts) × IsFirstPartFault fault (drop 3 texts))))

-- what is wrong with the fields behind a word
abbrev pub IsOwnFault : Word → LineFault → List (List ℕ) → Type 0
IsOwnFault words.Limits fault texts = IsLimitsFault fault texts
IsOwnFault words.Limits2 fault texts = IsLimitsFault fault texts
IsOwnFault words.Build fault texts = IsBuildFault fault texts
IsOwnFault word fault texts = IsRowFault (kinds_of word) fault texts

-- what is wrong with the texts between the spaces of a line: the word, or else the fields behind it
abbrev pub IsWordsFault : LineFault → List (List ℕ) → Type 0
IsWordsFault fault [] = ⊥
IsWordsFault fault (first ∷ own) =
    (((word : Word) → first ≢ word_text word) × (fault ≡ faults.Word)) ⊎ ((word : Word) × (first ≡ word_text word) × IsOwnFault word fault own)

-- what is wrong with a line
abbrev pub IsLineFault : LineFault → List ℕ → Type 0
IsLineFault fault line = IsWordsFault fault (split 32 line)
