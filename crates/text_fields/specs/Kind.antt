-- What may stand in a field, and what is wrong with a text that may not. Own format.
use Rattle.std.specs.Prelude.{ℕ, ℤ, Bool, ◌≡◌, ◌⊎◌, ◌^◌, ◌<◌, ◌≤◌, true, List, [], ◌∷◌, Option, IfSome, FitsSigned, length, decimal}
use Rattle.std.specs.Int.{w64}
use Rattle.hex.specs.Hex.{IsBytes}
use Rattle.blob_words.specs.BlobName.{name_text}
use Rattle.blob_words.specs.FileName.{is_file_name}
use Rattle.blob_words.specs.Origin.{is_origin}
use Rattle.blob_words.specs.UrlText.{is_url_text}
use Rattle.blob_words.specs.declared.status.Status.{Status}
use Rattle.text_fields.specs.Fields.{hex_text, len_text, place_text}
use Rattle.text_fields.specs.Status.{status_word, is_told, is_broken, is_end, switch_word}
use Rattle.text_fields.specs.declared.line_fault.LineFault.{LineFault}
use Rattle.text_fields.specs.declared.line_fault.LineFault.TheVariants as faults

-- what a field holds: a number of 32 bits, one of 64 bits, one of 64 bits that isn't 0, a length, a place in a blob, a blob's name, an origin, a file's name, a
-- URL's text, bytes, or a content type; and in answers alone: bytes that are some, the word of a broken status, of one with which a reader ends, of any status,
-- or a switch
pub data Kind : Type 0 where
  number_32 : Kind
  number_64 : Kind
  positive : Kind
  len : Kind
  place : Kind
  name : Kind
  origin : Kind
  file_name : Kind
  url_text : Kind
  bytes : Kind
  content_type : Kind
  some_bytes : Kind
  broken : Kind
  ending : Kind
  status : Kind
  switch : Kind

-- a content type has at most 255 bytes
abbrev pub IsContentType : List ℕ → Type 0
IsContentType kind = IsBytes kind × (length kind ≤ 255)

-- the text spells a value of the kind
abbrev pub Spells : Kind → List ℕ → Type 0
Spells number_32 text = (n : ℕ) × (n < 2 ^ 32) × (text ≡ decimal n)
Spells number_64 text = (n : ℕ) × (n < 2 ^ 64) × (text ≡ decimal n)
Spells positive text = (n : ℕ) × (1 ≤ n) × (n < 2 ^ 64) × (text ≡ decimal n)
Spells len text = (value : Option ℕ) × IfSome value (λ n. n < 2 ^ 64) × (text ≡ len_text value)
Spells place text = (value : Option ℤ) × IfSome value (λ z. FitsSigned w64 z) × (text ≡ place_text value)
Spells name text = (n : ℕ) × (n < 2 ^ 128) × (text ≡ name_text n)
Spells origin text = is_origin text ≡ true
Spells file_name text = is_file_name text ≡ true
Spells url_text text = is_url_text text ≡ true
Spells bytes text = (value : List ℕ) × IsBytes value × (text ≡ hex_text value)
Spells some_bytes text = (value : List ℕ) × IsBytes value × (0 < length value) × (text ≡ hex_text value)
Spells broken text = (value : Status) × (is_broken value ≡ true) × (text ≡ status_word value)
Spells ending text = (value : Status) × (is_end value ≡ true) × (text ≡ status_word value)
Spells status text = (value : Status) × (is_told value ≡ true) × (text ≡ status_word value)
Spells switch text = (value : Bool) × (text ≡ switch_word value)
Spells content_type text = (value : List ℕ) × IsBytes value × (length value ≤ 255) × (text ≡ hex_text value)

-- the class of a text that spells no value of the kind
abbrev pub IsClass : Kind → LineFault → List ℕ → Type 0
IsClass number_32 fault text = fault ≡ faults.Number
IsClass number_64 fault text = fault ≡ faults.Number
IsClass positive fault text = fault ≡ faults.Number
IsClass len fault text = fault ≡ faults.Number
IsClass place fault text = fault ≡ faults.Number
IsClass name fault text = fault ≡ faults.Name
IsClass origin fault text = fault ≡ faults.Name
IsClass file_name fault text = fault ≡ faults.Name
IsClass url_text fault text = fault ≡ faults.Name
IsClass bytes fault text = fault ≡ faults.Hex
IsClass some_bytes fault text = fault ≡ faults.Hex
IsClass broken fault text = fault ≡ faults.Word
IsClass ending fault text = fault ≡ faults.Word
IsClass status fault text = fault ≡ faults.Word
IsClass switch fault text = fault ≡ faults.Word
IsClass content_type fault text = (Spells bytes text × (fault ≡ faults.Type)) ⊎ ((Spells bytes text → ⊥) × (fault ≡ faults.Hex))

-- the text spells no value of the kind, and this is its class
abbrev pub IsFaultOf : Kind → LineFault → List ℕ → Type 0
IsFaultOf kind fault text = (Spells kind text → ⊥) × IsClass kind fault text

-- each text spells a value of its kind
abbrev pub AllSpell : List Kind → List (List ℕ) → Type 0
AllSpell [] [] = Unit {0}
AllSpell [] (text ∷ texts) = ⊥
AllSpell (kind ∷ kinds) [] = ⊥
AllSpell (kind ∷ kinds) (text ∷ texts) = Spells kind text × AllSpell kinds texts

-- from left to right, the first text that spells no value of its kind gives its class
abbrev pub IsFirstFault : List Kind → LineFault → List (List ℕ) → Type 0
IsFirstFault [] fault texts = ⊥
IsFirstFault (kind ∷ kinds) fault [] = ⊥
IsFirstFault (kind ∷ kinds) fault (text ∷ texts) = IsFaultOf kind fault text ⊎ (Spells kind text × IsFirstFault kinds fault texts)

-- what is wrong with the fields behind a word: their number, or else the first that is no spelling
abbrev pub IsRowFault : List Kind → LineFault → List (List ℕ) → Type 0
IsRowFault kinds fault texts = ((length texts ≡ length kinds → ⊥) × (fault ≡ faults.Fields)) ⊎ ((length texts ≡ length kinds) × IsFirstFault kinds fault texts)
