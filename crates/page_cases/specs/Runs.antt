-- What the calls of a row need of those before. Own.
use Rattle.std.specs.Prelude.{ℕ, List, [], ◌∷◌, Option, Result, Ok, Err, IfSome}
use Rattle.blob_words.specs.declared.number.PieceNo.{PieceNo}
use Rattle.page_disk.specs.declared.change.Change.{Change}
use Rattle.page_disk.specs.Changes.{HasRange}
use Rattle.page_files.specs.declared.ending.JobEnd.{JobEnd}
use Rattle.page_files.specs.declared.ending.JobEnd.TheVariants as job_ends
use Rattle.page_files.specs.declared.fault.JobFault.{JobFault}
use Rattle.page_files.specs.declared.held.Held.{Held}
use Rattle.page_files.specs.Files.{alone}

-- a piece by its bare number
abbrev pub piece_no : ℕ → PieceNo
piece_no number = record { 0 = number }

-- a piece of four bytes in a slot
abbrev pub four : ℕ → ℕ → Held
four number slot = alone (piece_no number) slot 4

-- the pieces 0 and 1, of four bytes each
abbrev pub two_pieces : ℕ → ℕ → List Held
two_pieces first second = four 0 first ∷ four 1 second ∷ []

-- the page that a job wrote has so many bytes, where the disk tells
abbrev pub IsThere : ℕ → Option (List Change) → Result JobEnd JobFault → Type 0
IsThere len told (Ok (job_ends.Paged page pieces)) = IfSome told (HasRange page.0 0 len)
IsThere len told (Ok job_ends.Empty) = Unit {0}
IsThere len told (Err fault) = Unit {0}
