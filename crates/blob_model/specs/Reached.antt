-- Which pieces and slots are reached. Own.
use Rattle.std.specs.Prelude.{ℕ, ◌==◌, ◌&&◌, Bool, true, false, not, List, [], ◌∷◌, map, filter}
use Rattle.std.specs.Option.{option_map_or}
use Rattle.blob_model.specs.History.{History}
use Rattle.blob_model.specs.Builds.{Cell, lent, Build, builds, build_in}
use Rattle.blob_model.specs.Standing.{is_broken, is_granted}
use Rattle.blob_model.specs.Live.{live}
use Rattle.blob_model.specs.Pieces.{Piece, pieces, owns}

-- whether one of the items passes the test; the first that does ends the search
abbrev pub some_passes : {X : Type 0} → (X → Bool) → List X → Bool
some_passes test [] = false
some_passes test (x ∷ xs) = elim (test x) [ true ↦ true | false ↦ some_passes test xs ]

-- the cells of the live blobs that aren't broken, blob by blob
abbrev pub live_cells : ℕ → History → List (List Cell)
live_cells page h = map (λ (build : Build). build.cells) (filter (λ (build : Build). not (is_broken h build.name)) (live page h))

-- whether the piece owns one of these cells
abbrev pub owns_some : List (List Cell) → Piece → Bool
owns_some contents piece = some_passes (λ (cells : List Cell). some_passes (owns piece) cells) contents

-- whether the blob of the piece was granted
abbrev pub is_granted_piece : History → List Build → Piece → Bool
is_granted_piece h builds piece = option_map_or (is_granted h) (build_in builds piece.blob) false

-- of these pieces those that are reached, where the blobs and the live cells are these
abbrev pub reached_of : History → List Build → List (List Cell) → List Piece → List Piece
reached_of h builds contents list = filter (λ (piece : Piece). is_granted_piece h builds piece && owns_some contents piece) list

-- a piece is reached where its blob was granted and it owns a cell of a live blob that isn't broken
abbrev pub reached : ℕ → History → List Piece
reached page h = reached_of h (builds page h) (live_cells page h) (pieces page h)

-- a data handle is reached where a live blob that isn't broken has a cell of it
abbrev pub is_of_slot : ℕ → Cell → Bool
is_of_slot slot (lent k index) = k == slot
is_of_slot slot cell = false

abbrev pub is_slot_reached : ℕ → History → ℕ → Bool
is_slot_reached page h slot = some_passes (λ (cells : List Cell). some_passes (is_of_slot slot) cells) (live_cells page h)
