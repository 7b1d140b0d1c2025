-- The items under slots, as what a history says of pieces. Own.
use Rattle.std.specs.Prelude.{ℕ, ◌≡◌, ◌+◌, ◌≤◌, ◌<◌, ◌==◌, Bool, true, false, List, length, filter, Option, None, Some, IfSome, IsSomeAnd}
use Rattle.std.specs.Option.{option_map, option_map_or}
use Rattle.std.specs.List.{list_any}
use Rattle.item_shares.specs.declared.item.Item.{Item}
use Rattle.item_shares.specs.declared.item.Item.TheVariants.{Memory, Paged, Reserved, File, Range}
use Rattle.item_shares.specs.declared.shares.Share.{Share}
use Rattle.item_shares.specs.Shares.{item_at}
use Rattle.blob_items.specs.declared.view.View.{View}
use Rattle.blob_model.specs.Pieces.{Piece}
use Rattle.blob_model.specs.Pages.{Place, in_memory, reserved, in_page}
use Rattle.store_laws.specs.Cells.{piece_in}

-- the number of the piece whose bytes an item has; a file and a data handle have no piece
abbrev pub piece_of_item : Item → Option ℕ
piece_of_item (Memory piece bytes) = Some piece.0
piece_of_item (Paged piece page off len) = Some piece.0
piece_of_item (Reserved piece len) = Some piece.0
piece_of_item (File name stamp off len) = None
piece_of_item (Range slot off len) = None

-- the piece of what a slot holds
abbrev pub piece_by : Option Item → Option ℕ
piece_by None = None
piece_by (Some item) = piece_of_item item

abbrev pub piece_at : List (Option Share) → ℕ → Option ℕ
piece_at shares slot = piece_by (item_at shares slot)

abbrev pub piece_of_share : Option Share → Option ℕ
piece_of_share held = piece_by (option_map (λ (share : Share). share.item) held)

-- whether it is this number
abbrev pub is_number : ℕ → Option ℕ → Bool
is_number number None = false
is_number number (Some one) = one == number

-- whether some slot holds the piece
abbrev pub holds_piece : List (Option Share) → ℕ → Bool
holds_piece shares number = list_any (λ (held : Option Share). is_number number (piece_of_share held)) shares

-- of these pieces those that some slot holds
abbrev pub held : List (Option Share) → List Piece → List Piece
held shares all = filter (λ (piece : Piece). holds_piece shares piece.number) all

-- no two slots hold one piece
abbrev pub AreOnePerPiece : List (Option Share) → Type 0
AreOnePerPiece shares = (one other number : ℕ) → piece_at shares one ≡ Some number → piece_at shares other ≡ Some number → one ≡ other

-- whether an item is the data handle of a slot of the table, and whether some item is
abbrev pub is_range_of : ℕ → Item → Bool
is_range_of k (Range slot off len) = slot == k
is_range_of k item = false

abbrev pub holds_slot : List (Option Share) → ℕ → Bool
holds_slot shares k = list_any (λ (held : Option Share). option_map_or (λ (share : Share). is_range_of k share.item) held false) shares

-- the number of bytes that an item stands for
abbrev pub item_length : Item → ℕ
item_length (Memory piece bytes) = length bytes
item_length (Paged piece page off len) = len
item_length (Reserved piece len) = len
item_length (File name stamp off len) = len
item_length (Range slot off len) = len

-- an item of a piece is as long as the piece, which there is
abbrev pub IsLongAs : List Piece → Item → Option ℕ → Type 0
IsLongAs all item None = Unit {0}
IsLongAs all item (Some number) = IsSomeAnd (piece_in all number) (λ (piece : Piece). item_length item ≡ piece.len)

-- a view lies inside the item of its slot, which is as long as its piece
abbrev pub IsInside : List Piece → List (Option Share) → View → Type 0
IsInside all shares view =
    IsSomeAnd (item_at shares view.slot) (λ (item : Item). (view.off + view.len ≤ item_length item) × IsLongAs all item (piece_of_item item))

-- what a history says of each piece: whether its blob was granted, where it is, its bytes, and its offset in the page file that lists it
pub record Facts : Type 0 where
  pub granted : Piece → Bool
  pub place : Piece → Place
  pub bytes : Piece → List ℕ
  pub offset : Piece → ℕ

-- an item of a piece is of a granted blob, and as the place of the piece says: in memory with its bytes, in that page file at its offset, or
-- reserved; one of a file or a data handle isn't empty
abbrev pub IsPlaced : List Piece → Facts → Item → Type 0
IsPlaced all facts (Memory piece bytes) =
    IsSomeAnd (piece_in all piece.0)
    (λ (one : Piece). (facts.granted one ≡ true) × (facts.place one ≡ in_memory) × (bytes ≡ facts.bytes one) × (length bytes ≡ one.len))
IsPlaced all facts (Paged piece page off len) =
    IsSomeAnd (piece_in all piece.0)
    (λ (one : Piece). (facts.granted one ≡ true) × (facts.place one ≡ in_page page.0) × (off ≡ facts.offset one) × (len ≡ one.len))
IsPlaced all facts (Reserved piece len) =
    IsSomeAnd (piece_in all piece.0) (λ (one : Piece). (facts.granted one ≡ true) × (facts.place one ≡ reserved) × (len ≡ one.len))
IsPlaced all facts (File name stamp off len) = 0 < len
IsPlaced all facts (Range slot off len) = 0 < len

-- each item is placed, and no piece has two
pub record ItemsStand (all : List Piece) (facts : Facts) (shares : List (Option Share)) : Type 0 where
  pub each : (slot : ℕ) → IfSome (item_at shares slot) (IsPlaced all facts)
  pub apart : AreOnePerPiece shares
