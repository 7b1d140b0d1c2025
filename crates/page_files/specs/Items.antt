-- The items of pieces. Own.
use Rattle.std.specs.Prelude.{ℕ, ◌≡◌, List, [], ◌∷◌, ◌==◌, length, Option, IsSomeAnd, if◌then◌else◌}
use Rattle.std.specs.Option.{option_map, option_map_or}
use Rattle.std.specs.List.{flat_map}
use Rattle.blob_words.specs.declared.number.PageNo.{PageNo}
use Rattle.blob_words.specs.declared.number.PieceNo.{PieceNo}
use Rattle.item_shares.specs.declared.item.Item.{Item}
use Rattle.item_shares.specs.declared.item.Item.TheVariants.{Memory, Paged, Reserved, File, Range}
use Rattle.item_shares.specs.declared.shares.Share.{Share}
use Rattle.item_shares.specs.Shares.{HoldsPiece, item_at, paged_item}
use Rattle.page_files.specs.declared.held.Held.{Held}

-- the item is this piece in memory
abbrev pub IsMemoryOf : Held → Item → Type 0
IsMemoryOf held (Memory piece bytes) = (piece ≡ held.piece) × (length bytes ≡ held.len)
IsMemoryOf held (Paged piece page off len) = ⊥
IsMemoryOf held (Reserved piece len) = ⊥
IsMemoryOf held (File name stamp off len) = ⊥
IsMemoryOf held (Range slot off len) = ⊥

-- the item is this piece in the page, where it begins there
abbrev pub IsPagedOf : PageNo → Held → Item → Type 0
IsPagedOf page held (Memory piece bytes) = ⊥
IsPagedOf page held (Paged piece one off len) = (piece ≡ held.piece) × (one ≡ page) × (off ≡ held.off) × (len ≡ held.len)
IsPagedOf page held (Reserved piece len) = ⊥
IsPagedOf page held (File name stamp off len) = ⊥
IsPagedOf page held (Range slot off len) = ⊥

-- the item is a piece of this length that is reserved
abbrev pub IsReservedOf : ℕ → Item → Type 0
IsReservedOf len (Memory piece bytes) = ⊥
IsReservedOf len (Paged piece page off size) = ⊥
IsReservedOf len (Reserved piece size) = size ≡ len
IsReservedOf len (File name stamp off size) = ⊥
IsReservedOf len (Range slot off size) = ⊥

-- the piece of a reserved item; nothing is said of others
abbrev pub piece_of : Item → PieceNo
piece_of (Memory piece bytes) = piece
piece_of (Paged piece page off len) = piece
piece_of (Reserved piece len) = piece
piece_of (File name stamp off len) = record { 0 = 0 }
piece_of (Range slot off len) = record { 0 = 0 }

-- the slot of the piece holds its item in memory
abbrev pub IsMemoryIn : List (Option Share) → Held → Type 0
IsMemoryIn shares held = IsSomeAnd (item_at shares held.slot) (IsMemoryOf held)

-- the slot of the piece holds its item in the page
abbrev pub IsPagedIn : PageNo → List (Option Share) → Held → Type 0
IsPagedIn page shares held = IsSomeAnd (item_at shares held.slot) (IsPagedOf page held)

-- the slot of the piece holds an item of a piece
abbrev pub IsPieceIn : List (Option Share) → Held → Type 0
IsPieceIn shares held = IsSomeAnd (item_at shares held.slot) HoldsPiece

-- the bytes of an item in memory
abbrev pub item_bytes : Item → List ℕ
item_bytes (Memory piece bytes) = bytes
item_bytes (Paged piece page off len) = []
item_bytes (Reserved piece len) = []
item_bytes (File name stamp off len) = []
item_bytes (Range slot off len) = []

-- the bytes of the pieces in memory, one after the other
abbrev pub bytes_in : List (Option Share) → List Held → List ℕ
bytes_in shares pieces = flat_map (λ held. option_map_or item_bytes (item_at shares held.slot) []) pieces

-- a share whose piece is now in the page, from an offset on
abbrev pub paged_share : PageNo → ℕ → Share → Share
paged_share page off share = record share { item = paged_item share.item page off }

-- what a slot holds once the pieces are in the page
abbrev pub turned : PageNo → List Held → ℕ → Option Share → Option Share
turned page [] slot share = share
turned page (held ∷ pieces) slot share = turned page pieces slot (if held.slot == slot then option_map (paged_share page held.off) share else share)
