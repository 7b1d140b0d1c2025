-- What holds of the cells of views. Own.
use Rattle.std.specs.Prelude.{◌≡◌, ℕ, List, ◌++◌, drop, take, Option, Some}
use Rattle.std.specs.List.{AllByRecursion, range_with_len}
use Rattle.std.specs.Prelude.{map}
use Rattle.item_shares.specs.declared.item.Item.{Item}
use Rattle.item_shares.specs.declared.shares.Share.{Share}
use Rattle.item_shares.specs.Shares.{item_at}
use Rattle.blob_items.specs.declared.view.View.{View}
use Rattle.blob_items.specs.Cells.{cells, view_cells}
use Rattle.blob_model.specs.Pieces.{Piece}
use Rattle.store_laws.specs.Cells.{cell_at, denoted, item_cell}

-- what is said of the slot of a view is the same
abbrev pub IsSameAt : List Piece → List (Option Share) → List (Option Share) → View → Type 0
IsSameAt all old new view = (place : ℕ) → cell_at all new (view.slot, place) ≡ cell_at all old (view.slot, place)

-- the cells of views that are joined, of views with a part of others' cells, of one view, and of views whose slots say the same as before
pub record DenotedLaws : Type 0 where
  pub joined : (all : List Piece) (shares : List (Option Share)) (xs ys : List View) → denoted all shares
      (xs ++ ys) ≡ denoted all shares xs ++ denoted all shares ys
  pub cut : (all : List Piece) (shares : List (Option Share)) (views list : List View) (off len : ℕ) → cells list ≡ take len (drop off (cells views))
      → denoted all shares list ≡ take len (drop off (denoted all shares views))
  pub of_view : (all : List Piece) (shares : List (Option Share)) (view : View) (item : Item) → item_at shares view.slot ≡ Some item
      → map (cell_at all shares) (view_cells view) ≡ map (item_cell all item) (range_with_len view.off view.len)
  pub same : (all : List Piece) (old new : List (Option Share)) (views : List View) → AllByRecursion (IsSameAt all old new) views
      → denoted all new views ≡ denoted all old views
