-- Which bytes name a file. Own rule: a name is one field of a part, whose fields `:` parts.
use Rattle.std.specs.Prelude.{ℕ, ◌==◌, ◌&&◌, Bool, List, length, nat_le, not}
use Rattle.std.specs.List.{list_all}

-- a byte that a file's name may have: visible ASCII other than `:`
abbrev pub is_file_name_byte : ℕ → Bool
is_file_name_byte byte = nat_le 0x21 byte && nat_le byte 0x7e && not (byte == 0x3a)

-- 1 to 255 such bytes
abbrev pub is_file_name : List ℕ → Bool
is_file_name bytes = nat_le 1 (length bytes) && nat_le (length bytes) 255 && list_all is_file_name_byte bytes
