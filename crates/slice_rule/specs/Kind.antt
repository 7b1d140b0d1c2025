-- How the content type of a blob is kept. File API, the `type` of a Blob.
use Rattle.std.specs.Prelude.{ℕ, Bool, ◌&&◌, List, [], map, nat_le, if◌then◌else◌}
use Rattle.std.specs.List.{list_all}
use Rattle.std.specs.Char.{to_ascii_lowercase}

-- a character of a type is one from U+0020 to U+007E
abbrev pub is_type_byte : ℕ → Bool
is_type_byte byte = nat_le 0x20 byte && nat_le byte 0x7E

-- a type of such characters alone is kept
abbrev pub is_kept : List ℕ → Bool
is_kept text = list_all is_type_byte text

-- the type that is kept: in ASCII lower case, or the empty one
abbrev pub kept_type : List ℕ → List ℕ
kept_type text = if is_kept text then map to_ascii_lowercase text else []
