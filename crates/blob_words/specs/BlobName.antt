-- The text of a blob's name (RFC 9562: digits in groups 8-4-4-4-12; own: lower case alone).
use Rattle.std.specs.Prelude.{ℕ, List}
use Rattle.std.specs.Int.{to_be_bytes, w128}
use Rattle.uuid.specs.Text.{hyphenated_text, lower}

-- the 36 bytes of the hyphenated text, in lower case, of the UUID of this number
abbrev pub name_text : ℕ → List ℕ
name_text number = hyphenated_text lower (to_be_bytes w128 number)
