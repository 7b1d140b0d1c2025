-- What an item weighs: bytes in memory, reserved bytes, a piece, a range of a data handle. Own.
use Rattle.std.specs.Prelude.{ℕ, length, is_some, cond}
use Rattle.item_shares.specs.declared.item.Item.{Item}
use Rattle.item_shares.specs.declared.item.Item.TheVariants.{Memory, Reserved}
use Rattle.blob_model.specs.Pages.{is_memory, is_reserved}
use Rattle.blob_model.specs.Pieces.{Piece}
use Rattle.store_laws.specs.Items.{Facts, is_range_of, piece_of_item}

-- the bytes of an item in memory, and of one that is reserved
abbrev pub memory_weight : Item → ℕ
memory_weight (Memory piece bytes) = length bytes
memory_weight item = 0

abbrev pub reserved_weight : Item → ℕ
reserved_weight (Reserved piece len) = len
reserved_weight item = 0

-- 1 for an item of a piece, and 1 for an item of this data handle
abbrev pub piece_weight : Item → ℕ
piece_weight item = cond (is_some (piece_of_item item)) 1 0

abbrev pub range_weight : ℕ → Item → ℕ
range_weight k item = cond (is_range_of k item) 1 0

-- the same of a piece by its place
abbrev pub memory_bytes : Facts → Piece → ℕ
memory_bytes facts piece = cond (is_memory (facts.place piece)) piece.len 0

abbrev pub reserved_bytes : Facts → Piece → ℕ
reserved_bytes facts piece = cond (is_reserved (facts.place piece)) piece.len 0
