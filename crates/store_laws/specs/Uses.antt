-- Which pieces are held, and the order of their use. Own.
use Rattle.std.specs.Prelude.{ℕ, ◌&&◌, ◌||◌, Bool, not, List, map, filter, filter_map, Option, None, Some}
use Rattle.item_shares.specs.declared.shares.Share.{Share}
use Rattle.blob_model.specs.Session.{Session, page_limit}
use Rattle.blob_model.specs.History.{History}
use Rattle.blob_model.specs.Builds.{Build, builds}
use Rattle.blob_model.specs.Changes.{piece_bytes}
use Rattle.blob_model.specs.Jobs.{in_flight, is_in_job, next_job, paging}
use Rattle.blob_model.specs.Pages.{Page, asked, offset, page_with, pages, place}
use Rattle.blob_model.specs.Pieces.{Piece, pieces, pieces_of}
use Rattle.blob_model.specs.Reached.{is_granted_piece}
use Rattle.blob_model.specs.Standing.{is_done}
use Rattle.blob_model.specs.Tally.{in_memory_of}
use Rattle.blob_model.specs.Victims.{last_uses, with_length}
use Rattle.store_laws.specs.Items.{Facts, holds_piece}
use Rattle.store_laws.specs.PageFiles.{PageFacts, writes}
use Rattle.store_laws.specs.Rows.{Row, is_gathered}

-- the offset of a piece in the page file that lists it
abbrev pub offset_in : List Piece → Option Page → ℕ → ℕ
offset_in all None number = 0
offset_in all (Some page) number = offset all page number

-- what a history says of pieces and of page files
abbrev pub facts_of : Session → History → Facts
facts_of s h = record {
  granted = λ (piece : Piece). is_granted_piece h (builds (page_limit s) h) piece;
  place = λ (piece : Piece). place (page_limit s) h piece;
  bytes = λ (piece : Piece). piece_bytes s h piece;
  offset = λ (piece : Piece). offset_in (pieces (page_limit s) h) (page_with (pages h) piece.number) piece.number;
}

abbrev pub page_facts_of : History → PageFacts
page_facts_of h = record { written = writes h; asked = asked h; flying = in_flight h; jobs = next_job h; paging = paging h }

-- the numbers of the pieces of a blob
abbrev pub own_pieces : ℕ → History → ℕ → List ℕ
own_pieces page h name = map (λ (piece : Piece). piece.number) (pieces_of page h name)

-- a piece is held by an item, or among the bytes that are gathered
abbrev pub is_held : List Build → List (Option Share) → List (Option Row) → Piece → Bool
is_held builds shares rows piece = holds_piece shares piece.number || is_gathered builds rows piece.blob

abbrev pub held_pieces : ℕ → History → List (Option Share) → List (Option Row) → List Piece
held_pieces page h shares rows = filter (is_held (builds page h) shares rows) (pieces page h)

-- of held pieces those in memory whose own blob is done and which no job names, by last use, the earliest first, each with its length
abbrev pub pageable_of : ℕ → History → List Piece → List Piece
pageable_of page h list = filter (λ (piece : Piece). is_done h piece.blob && not (is_in_job h piece.number)) (in_memory_of h (builds page h) list)

abbrev pub order_of : Session → History → List (Option Share) → List (Option Row) → List (ℕ × ℕ)
order_of s h shares rows = filter_map (with_length (pageable_of (page_limit s) h (held_pieces (page_limit s) h shares rows))) (last_uses s.limits h)
