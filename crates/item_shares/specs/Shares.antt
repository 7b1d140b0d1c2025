-- Items under slots, each with the number of views on it. Own.
use Rattle.std.specs.Prelude.{ℕ, ◌≡◌, ◌≢◌, ◌<◌, List, length, Option, None, option_map, slice_index_or, IfSome}
use Rattle.blob_words.specs.declared.number.PageNo.{PageNo}
use Rattle.item_shares.specs.declared.item.Item.{Item}
use Rattle.item_shares.specs.declared.item.Item.TheVariants.{Memory, Paged, Reserved, File, Range}
use Rattle.item_shares.specs.declared.shares.Share.{Share}

-- an item with so many views on it
abbrev pub share_of : Item → ℕ → Share
share_of item count = record { item = item; count = count }

-- what a slot holds
abbrev pub share_at : List (Option Share) → ℕ → Option Share
share_at shares slot = slice_index_or shares slot None

-- the item that a slot holds
abbrev pub item_at : List (Option Share) → ℕ → Option Item
item_at shares slot = option_map (λ share. share.item) (share_at shares slot)

-- no item stands that nothing views
abbrev pub AreViewed : List (Option Share) → Type 0
AreViewed shares = (slot : ℕ) → IfSome (share_at shares slot) (λ share. 0 < share.count)

-- the slot now holds this, and every other slot what it held
pub record Changes (old new : List (Option Share)) (slot : ℕ) (held : Option Share) : Type 0 where
  pub changed : share_at new slot ≡ held
  pub others : (other : ℕ) → other ≢ slot → share_at new other ≡ share_at old other

-- the item stands for the bytes of a piece
abbrev pub HoldsPiece : Item → Type 0
HoldsPiece (Memory piece bytes) = Unit {0}
HoldsPiece (Paged piece page off len) = Unit {0}
HoldsPiece (Reserved piece len) = Unit {0}
HoldsPiece (File name stamp off len) = ⊥
HoldsPiece (Range slot off len) = ⊥

-- the item with the bytes of its piece in a page file, from an offset on; a file or a handle has none
abbrev pub paged_item : Item → PageNo → ℕ → Item
paged_item (Memory piece bytes) page off = Paged piece page off (length bytes)
paged_item (Paged piece _ _ len) page off = Paged piece page off len
paged_item (Reserved piece len) page off = Paged piece page off len
paged_item (File name stamp start len) page off = File name stamp start len
paged_item (Range handle start len) page off = Range handle start len
