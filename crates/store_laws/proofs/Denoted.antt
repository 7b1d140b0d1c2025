-- The cells of views that are joined, cut, or whose items change their place.
use Rattle.std.proofs.Common.{◌≡◌, ℕ, zero, suc, ◌+◌, List, [], ◌∷◌, ◌++◌, map, take, drop, refl, ap, sym, ◌∙◌, arith, Option, Some}
use Rattle.std.specs.List.{AllByRecursion, range_with_len}
use Rattle.std.proofs.lemmas.List.{map-append, take-map, drop-map}
use Rattle.std.proofs.lemmas.List.Concat.{flat_map-append}
use Rattle.item_shares.specs.declared.item.Item.{Item}
use Rattle.item_shares.specs.declared.shares.Share.{Share}
use Rattle.item_shares.specs.Shares.{item_at}
use Rattle.blob_items.specs.declared.view.View.{View}
use Rattle.blob_items.specs.Cells.{cells, view_cells}
use Rattle.blob_model.specs.Builds.{Cell, sent, filed, lent, own_cells, file_cells, handle_cells}
use Rattle.blob_model.specs.Pieces.{Piece}
use Rattle.store_laws.specs.CellLaws.{IsSameAt}
use Rattle.store_laws.specs.Cells.{piece_cell, item_cell, cell_by, cell_at, denoted}

-- ---- joined and cut

pub denoted-append : (all : List Piece) (shares : List (Option Share)) (xs ys : List View)
    → denoted all shares (xs ++ ys) ≡ denoted all shares xs ++ denoted all shares ys
denoted-append all shares xs ys = ap (map (cell_at all shares)) (flat_map-append view_cells xs ys) ∙ map-append (cell_at all shares) (cells xs) (cells ys)

pub denoted-cut : (all : List Piece) (shares : List (Option Share)) (views list : List View) (off len : ℕ) → cells list ≡ take len (drop off (cells views))
    → denoted all shares list ≡ take len (drop off (denoted all shares views))
denoted-cut all shares views list off len same =
    ap (map (cell_at all shares)) same
    ∙ sym (take-map (cell_at all shares) len (drop off (cells views)))
    ∙ ap (take len) (sym (drop-map (cell_at all shares) off (cells views)))

-- ---- the views of items

map-same : {X Y : Type 0} (f g : X → Y) → ((x : X) → f x ≡ g x) → (xs : List X) → map f xs ≡ map g xs
map-same f g same [] = refl
map-same f g same (x ∷ xs) = ap (λ y. y ∷ map f xs) (same x) ∙ ap (λ ys. g x ∷ ys) (map-same f g same xs)

pub map-map : {X Y Z : Type 0} (g : Y → Z) (f : X → Y) (xs : List X) → map g (map f xs) ≡ map (λ x. g (f x)) xs
map-map g f [] = refl
map-map g f (x ∷ xs) = ap (λ ys. g (f x) ∷ ys) (map-map g f xs)

-- numbers from a place on, further on
pub map-shifted : {Y : Type 0} (g : ℕ → Y) (by from len : ℕ) → map (λ (k : ℕ). g (by + k)) (range_with_len from len) ≡ map g (range_with_len (by + from) len)
map-shifted g by from zero = refl
map-shifted g by from (suc len) =
    let next : by + (from + 1) ≡ (by + from) + 1 = omega arith in
    ap (λ ys. g (by + from) ∷ ys) (map-shifted g by (from + 1) len ∙ ap (λ (k : ℕ). map g (range_with_len k len)) next)

-- a view denotes the cells of its item from its place on
pub denoted-view : (all : List Piece) (shares : List (Option Share)) (view : View) (item : Item) → item_at shares view.slot ≡ Some item
    → map (cell_at all shares) (view_cells view) ≡ map (item_cell all item) (range_with_len view.off view.len)
denoted-view all shares view item held =
    map-map (cell_at all shares) (λ (place : ℕ). (view.slot, place)) (range_with_len view.off view.len)
    ∙ map-same (λ (place : ℕ). cell_by all (item_at shares view.slot) place) (item_cell all item) (λ place. ap (λ
    (o : Option Item). cell_by all o place) held) (range_with_len view.off view.len)

-- the bytes of a piece from a place on are own cells of its blob, those of a range of a file or a handle are its cells
pub piece-cells : (piece : Piece) (off len : ℕ) → map (piece_cell (Some piece)) (range_with_len off len) ≡ own_cells piece.blob (piece.from + off) len
piece-cells piece off len = map-shifted (λ (index : ℕ). sent piece.blob index) piece.from off len

pub file-cells : (name : List ℕ) (stamp start off len : ℕ) → map (λ (place : ℕ). filed name stamp (start + place))
    (range_with_len off len) ≡ file_cells name stamp (start + off) len
file-cells name stamp start off len = map-shifted (λ (index : ℕ). filed name stamp index) start off len

pub range-cells : (slot start off len : ℕ) → map (λ (place : ℕ). lent slot (start + place)) (range_with_len off len) ≡ handle_cells slot (start + off) len
range-cells slot start off len = map-shifted (λ (index : ℕ). lent slot index) start off len

-- ---- items that change their place

-- views whose places say the same in two ways
pub cells-same : (f g : ℕ × ℕ → Cell) (views : List View) → AllByRecursion (λ (view : View). (place : ℕ) → f (view.slot, place) ≡ g (view.slot, place)) views
    → map f (cells views) ≡ map g (cells views)
cells-same f g [] same = refl
cells-same f g (view ∷ views) same =
    map-append f (view_cells view) (cells views)
    ∙ ap (λ (front : List Cell). front ++ map f (cells views))
    (
    map-map f (λ (place : ℕ). (view.slot, place)) (range_with_len view.off view.len)
    ∙ map-same (λ (place : ℕ). f (view.slot, place)) (λ (place : ℕ). g (view.slot, place)) same.0 (range_with_len view.off view.len)
    ∙ sym (map-map g (λ (place : ℕ). (view.slot, place)) (range_with_len view.off view.len))
    )
    ∙ ap (λ (rest : List Cell). map g (view_cells view) ++ rest) (cells-same f g views same.1)
    ∙ sym (map-append g (view_cells view) (cells views))

pub denoted-same : (all : List Piece) (old new : List (Option Share)) (views : List View) → AllByRecursion (IsSameAt all old new) views
    → denoted all new views ≡ denoted all old views
denoted-same all old new views same = cells-same (cell_at all new) (cell_at all old) views same
