-- The cells of views: the slot and the place in the item of each byte. Own.
use Rattle.std.specs.Prelude.{ℕ, ◌+◌, ◌≡◌, ◌<◌, List, map, take, length, sum_by, flat_map}
use Rattle.std.specs.List.{range_with_len}
use Rattle.blob_items.specs.declared.view.View.{View}

-- the cells of a view, by rising place
abbrev pub view_cells : View → List (ℕ × ℕ)
view_cells view = map (λ (place : ℕ). (view.slot, place)) (range_with_len view.off view.len)

-- the cells of views, one view after the other
abbrev pub cells : List View → List (ℕ × ℕ)
cells views = flat_map view_cells views

-- the number of them
abbrev pub total : List View → ℕ
total views = sum_by (λ (view : View). view.len) views

-- the cell at `off` is this one of this view: so many cells stand before the view, and it has the cell
pub record IsPlaceOf (views : List View) (off : ℕ) (place : ℕ × ℕ) : Type 0 where
  pub view : place.0 < length views
  pub before : total (take place.0 views) + place.1 ≡ off
  pub within : off < total (take (place.0 + 1) views)
