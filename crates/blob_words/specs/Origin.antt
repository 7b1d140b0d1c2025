-- Which bytes name an origin. Own rule, after the serialized origins of the File API.
use Rattle.std.specs.Prelude.{ℕ, ◌==◌, ◌&&◌, Bool, List, length, codes, nat_le, not}
use Rattle.std.specs.List.{list_all}
use Rattle.std.specs.Str.{bytes_eq}

-- a byte that an origin may have: visible ASCII other than `#`
abbrev pub is_origin_byte : ℕ → Bool
is_origin_byte byte = nat_le 0x21 byte && nat_le byte 0x7e && not (byte == 0x23)

-- 1 to 255 such bytes, and not the origin that nothing is known of
abbrev pub is_origin : List ℕ → Bool
is_origin bytes = nat_le 1 (length bytes) && nat_le (length bytes) 255 && list_all is_origin_byte bytes && not (bytes_eq bytes (codes "null"))
