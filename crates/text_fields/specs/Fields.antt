-- How the fields of a line are spelled. Own format.
use Rattle.std.specs.Prelude.{ℕ, ℤ, List, [], ◌∷◌, ◌++◌, Option, Some, None, codes, decimal}
use Rattle.std.specs.Fmt.{signed_decimal}
use Rattle.std.specs.List.{flat_map}
use Rattle.hex.specs.Hex.{encode_lower}

-- some fields, each behind one separator: a space in a line, `:` in a part
abbrev pub fields : ℕ → List (List ℕ) → List ℕ
fields separator texts = flat_map (λ text. separator ∷ text) texts

-- the first field, and the others behind it
abbrev pub joined : ℕ → List (List ℕ) → List ℕ
joined separator [] = []
joined separator (first ∷ texts) = first ++ fields separator texts

-- bytes: two digits a byte, in lower case; `-` where there is none
abbrev pub hex_text : List ℕ → List ℕ
hex_text [] = codes "-"
hex_text (byte ∷ bytes) = encode_lower (byte ∷ bytes)

-- a length: a number, or `_` for all the rest
abbrev pub len_text : Option ℕ → List ℕ
len_text None = codes "_"
len_text (Some len) = decimal len

-- a start or an end of a slice: a number with its sign, or `_` where it is missing
abbrev pub place_text : Option ℤ → List ℕ
place_text None = codes "_"
place_text (Some place) = signed_decimal place
