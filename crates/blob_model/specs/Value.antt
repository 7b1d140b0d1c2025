-- The byte that a cell stands for. File API: a read gives the bytes of the parts named at construction.
use Rattle.std.specs.Prelude.{ℕ, ◌==◌, ◌&&◌, ◌||◌, Bool, true, false, List, [], ◌∷◌, Option, None, Some, is_none, slice_get}
use Rattle.std.specs.Option.{option_map_or, option_and_then}
use Rattle.blob_model.specs.Session.{Slot, Outside, Session, page_limit}
use Rattle.blob_model.specs.History.{History}
use Rattle.blob_model.specs.Recorded.{content}
use Rattle.blob_model.specs.Builds.{Cell, sent, filed, lent, Build, builds, build_in}
use Rattle.blob_model.specs.Transport.{sent_byte}
use Rattle.blob_model.specs.Pieces.{Piece, pieces, piece_with}
use Rattle.blob_model.specs.Pages.{Place, in_page, place}

-- the bytes that the object in a slot tells
abbrev pub slot_bytes : Outside → ℕ → Option (List ℕ)
slot_bytes outside slot = option_and_then (λ (object : Slot). object.bytes) (slice_get outside.slots slot)

-- the byte of a cell: as it was sent, as the file had it at the stamp, or as the data handle tells it
abbrev pub value : Session → History → Cell → Option ℕ
value s h (sent blob index) = option_and_then (λ (build : Build). sent_byte s.limits h build index) (build_in (builds (page_limit s) h) blob)
value s h (filed name stamp index) = option_and_then (λ (bytes : List ℕ). slice_get bytes index) (content h name stamp)
value s h (lent slot index) = option_and_then (λ (bytes : List ℕ). slice_get bytes index) (slot_bytes s.outside slot)

-- whether there is an object in the slot, and it tells nothing
abbrev pub tells_nothing : Option Slot → Bool
tells_nothing None = false
tells_nothing (Some object) = is_none object.bytes

abbrev pub is_in_page : Place → Bool
is_in_page (in_page number) = true
is_in_page at = false

-- whether the piece of the cell is in a page file
abbrev pub is_paged : ℕ → History → Cell → Bool
is_paged page h cell = option_map_or (λ (piece : Piece). is_in_page (place page h piece)) (piece_with (pieces page h) cell) false

-- whether nothing tells the cell's byte: its object tells nothing, or its piece is in a page file of a disk that tells nothing
abbrev pub is_untold : Session → History → Cell → Bool
is_untold s h (sent blob index) = elim (s.outside.disk_tells) [ true ↦ false | false ↦ is_paged (page_limit s) h (sent blob index) ]
is_untold s h (filed name stamp index) = false
is_untold s h (lent slot index) = tells_nothing (slice_get s.outside.slots slot)

abbrev pub is_byte : Option ℕ → ℕ → Bool
is_byte None byte = false
is_byte (Some known) byte = known == byte

-- a byte agrees with a cell where it is its value, or where nothing tells the cell's byte
abbrev pub agrees : Session → History → Cell → ℕ → Bool
agrees s h cell byte = is_untold s h cell || is_byte (value s h cell) byte

-- as many bytes as cells, each agreeing with its cell
abbrev pub agree : Session → History → List Cell → List ℕ → Bool
agree s h [] [] = true
agree s h [] (byte ∷ bytes) = false
agree s h (cell ∷ cells) [] = false
agree s h (cell ∷ cells) (byte ∷ bytes) = agrees s h cell byte && agree s h cells bytes
