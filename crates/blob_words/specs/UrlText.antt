-- Which bytes stand as the text of a blob URL in a session. Own rule: a text is one field of a line.
use Rattle.std.specs.Prelude.{ℕ, ◌&&◌, Bool, List, length, nat_le}
use Rattle.std.specs.List.{list_all}

-- a byte that the text may have: visible ASCII
abbrev pub is_visible_byte : ℕ → Bool
is_visible_byte byte = nat_le 0x21 byte && nat_le byte 0x7e

-- 1 to 512 such bytes
abbrev pub is_url_text : List ℕ → Bool
is_url_text bytes = nat_le 1 (length bytes) && nat_le (length bytes) 512 && list_all is_visible_byte bytes
