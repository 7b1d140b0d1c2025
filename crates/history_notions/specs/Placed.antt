-- Where pieces are, read off page files and blobs. Own.
use Rattle.std.specs.Prelude.{ℕ, List, filter, length, nat_lt, Bool}
use Rattle.blob_model.specs.Builds.{Build, build_in}
use Rattle.blob_model.specs.Pieces.{Piece}
use Rattle.blob_model.specs.Pages.{Page, page_with, Place, place_by, is_memory, is_reserved, is_page}

-- the place of a piece
abbrev pub place_at : List Page → List Build → Piece → Place
place_at pages builds piece = place_by (page_with pages piece.number) (build_in builds piece.blob)

-- of these pieces those in memory, those reserved, and those in one page file
abbrev pub memory_pieces : List Page → List Build → List Piece → List Piece
memory_pieces pages builds list = filter (λ (piece : Piece). is_memory (place_at pages builds piece)) list

abbrev pub reserved_pieces : List Page → List Build → List Piece → List Piece
reserved_pieces pages builds list = filter (λ (piece : Piece). is_reserved (place_at pages builds piece)) list

abbrev pub page_pieces : List Page → List Build → ℕ → List Piece → List Piece
page_pieces pages builds number list = filter (λ (piece : Piece). is_page number (place_at pages builds piece)) list

-- whether one of the pieces is in the page file
abbrev pub holds_some : List Page → List Build → List Piece → Page → Bool
holds_some pages builds list page = nat_lt 0 (length (page_pieces pages builds page.number list))
