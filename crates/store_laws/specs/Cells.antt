-- What views stand for: the cell of each of their bytes. Own.
use Rattle.std.specs.Prelude.{ℕ, ◌+◌, ◌==◌, List, map, find, Option, None, Some}
use Rattle.item_shares.specs.declared.item.Item.{Item}
use Rattle.item_shares.specs.declared.item.Item.TheVariants.{Memory, Paged, Reserved, File, Range}
use Rattle.item_shares.specs.declared.shares.Share.{Share}
use Rattle.item_shares.specs.Shares.{item_at}
use Rattle.blob_items.specs.declared.view.View.{View}
use Rattle.blob_items.specs.Cells.{cells}
use Rattle.blob_model.specs.Builds.{Cell, sent, filed, lent}
use Rattle.blob_model.specs.Pieces.{Piece}

-- the piece of a number
abbrev pub piece_in : List Piece → ℕ → Option Piece
piece_in all number = find (λ (piece : Piece). piece.number == number) all

-- the cell of the byte at a place of a piece; where there is no such piece no place is looked at
abbrev pub piece_cell : Option Piece → ℕ → Cell
piece_cell None place = sent 0 place
piece_cell (Some piece) place = sent piece.blob (piece.from + place)

-- the cell of the byte at a place of an item
abbrev pub item_cell : List Piece → Item → ℕ → Cell
item_cell all (Memory piece bytes) place = piece_cell (piece_in all piece.0) place
item_cell all (Paged piece page off len) place = piece_cell (piece_in all piece.0) place
item_cell all (Reserved piece len) place = piece_cell (piece_in all piece.0) place
item_cell all (File name stamp off len) place = filed name stamp (off + place)
item_cell all (Range slot off len) place = lent slot (off + place)

-- the cell of a place in what a slot holds
abbrev pub cell_by : List Piece → Option Item → ℕ → Cell
cell_by all None place = sent 0 0
cell_by all (Some item) place = item_cell all item place

abbrev pub cell_at : List Piece → List (Option Share) → ℕ × ℕ → Cell
cell_at all shares pair = cell_by all (item_at shares pair.0) pair.1

-- the cells that views stand for, byte by byte
abbrev pub denoted : List Piece → List (Option Share) → List View → List Cell
denoted all shares views = map (cell_at all shares) (cells views)
