-- Which pieces a read uses, read off runs and places. Own.
use Rattle.std.specs.Prelude.{ℕ, ◌==◌, List, [], ◌∷◌, map, filter, fold, take, drop, min, Option, None, Some, if◌then◌else◌}
use Rattle.answer_text.specs.declared.answer.Answer.{Answer}
use Rattle.answer_text.specs.declared.answer.Answer.TheVariants as answers
use Rattle.blob_model.specs.Session.{Session}
use Rattle.blob_model.specs.History.{History}
use Rattle.blob_model.specs.Builds.{Cell, Build, cells_in}
use Rattle.blob_model.specs.Readers.{OpenReader}
use Rattle.blob_model.specs.Chunk.{left}
use Rattle.blob_model.specs.Pieces.{Piece, piece_with}
use Rattle.blob_model.specs.Pages.{Page, is_memory}
use Rattle.blob_model.specs.Victims.{used}
use Rattle.history_notions.specs.Placed.{place_at}

-- the piece of a cell, where it is in memory
abbrev pub memory_number : List Page → List Build → Option Piece → List ℕ
memory_number pages builds None = []
memory_number pages builds (Some piece) = if is_memory (place_at pages builds piece) then piece.number ∷ [] else []

-- the bytes of a cell use its piece where that is in memory
abbrev pub use_cell : List Page → List Build → List Piece → List ℕ → Cell → List ℕ
use_cell pages builds pieces before cell = fold used before (memory_number pages builds (piece_with pieces cell))

-- those of several cells, one after the other
abbrev pub use_cells : List Page → List Build → List Piece → List ℕ → List Cell → List ℕ
use_cells pages builds pieces before cells = fold (use_cell pages builds pieces) before cells

-- the next cells of a reader's range, at most `most` of them
abbrev pub chunk_in : ℕ → List Build → OpenReader → List Cell
chunk_in most builds reader = take (min (left reader) most) (drop reader.place (cells_in builds reader.blob))

-- a blob that gets done uses its pieces, in rising number
abbrev pub use_blob : List Piece → ℕ → List ℕ → List ℕ
use_blob pieces name before = fold used before (map (λ (piece : Piece). piece.number) (filter (λ (piece : Piece). piece.blob == name) pieces))

abbrev pub use_done : List Piece → Answer → List ℕ → List ℕ
use_done pieces (answers.Done b) before = use_blob pieces b before
use_done pieces answer before = before
