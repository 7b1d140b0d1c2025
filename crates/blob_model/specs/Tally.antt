-- What a store holds after a line: memory and disk charged by what is reached. Own.
use Rattle.std.specs.Prelude.{ℕ, ◌+◌, ◌*◌, ◌==◌, Bool, List, [], length, filter, sum_by, nat_lt}
use Rattle.std.specs.Option.{option_map_or}
use Rattle.std.specs.List.{list_any}
use Rattle.blob_words.specs.declared.tally.Tally.{Tally}
use Rattle.blob_model.specs.History.{History}
use Rattle.blob_model.specs.Builds.{Build, builds}
use Rattle.blob_model.specs.Pieces.{Piece, pieces, length_in}
use Rattle.blob_model.specs.Reached.{reached}
use Rattle.blob_model.specs.Pages.{Page, pages, page_size, place_in, is_memory, is_reserved, is_page}
use Rattle.blob_model.specs.Jobs.{Job, in_flight}

-- of reached pieces those in memory, those reserved, and those in one page file, where the blobs are these
abbrev pub in_memory_of : History → List Build → List Piece → List Piece
in_memory_of h builds list = filter (λ (piece : Piece). is_memory (place_in h builds piece)) list

abbrev pub reserved_of : History → List Build → List Piece → List Piece
reserved_of h builds list = filter (λ (piece : Piece). is_reserved (place_in h builds piece)) list

abbrev pub in_page_of : History → List Build → Page → List Piece → List Piece
in_page_of h builds page list = filter (λ (piece : Piece). is_page page.number (place_in h builds piece)) list

-- the bytes of pieces
abbrev pub bytes_of : List Piece → ℕ
bytes_of list = sum_by (λ (piece : Piece). piece.len) list

-- the page files that hold a reached piece
abbrev pub files_of : History → List Build → List Piece → List Page
files_of h builds list = filter (λ (page : Page). nat_lt 0 (length (in_page_of h builds page list))) (pages h)

-- the pieces of a job that are reached
abbrev pub job_left_of : Job → List Piece → List ℕ
job_left_of job list = filter (λ (number : ℕ). list_any (λ (piece : Piece). piece.number == number) list) job.pieces

-- the pieces that the job in flight still has, in its order
abbrev pub job_left_in : History → List Piece → List ℕ
job_left_in h list = option_map_or (λ (job : Job). job_left_of job list) (in_flight h) []

-- a page file is thin where its reached pieces are less than half of it
abbrev pub is_thin : History → List Build → List Piece → List Piece → Page → Bool
is_thin h builds all list page = nat_lt (2 * bytes_of (in_page_of h builds page list)) (page_size all page)

-- the bytes charged to memory and to the disk, where all pieces and the reached ones are these
abbrev pub memory_of : History → List Build → List Piece → ℕ
memory_of h builds list = bytes_of (in_memory_of h builds list)

abbrev pub disk_of : History → List Build → List Piece → List Piece → ℕ
disk_of h builds all list = sum_by (page_size all) (files_of h builds list) + bytes_of (reserved_of h builds list) + sum_by (length_in all) (job_left_in h list)

-- the bytes of the reached pieces in memory
abbrev pub memory : ℕ → History → ℕ
memory page h = memory_of h (builds page h) (reached page h)

-- the page files that hold a reached piece
abbrev pub files : ℕ → History → List Page
files page h = files_of h (builds page h) (reached page h)

-- the bytes of those page files, of the reached pieces that are reserved and of those that the job in flight names
abbrev pub disk : ℕ → History → ℕ
disk page h = disk_of h (builds page h) (pieces page h) (reached page h)

-- the pieces that the job in flight still has
abbrev pub job_left : ℕ → History → List ℕ
job_left page h = job_left_in h (reached page h)

abbrev pub tally_of : History → List Build → List Piece → List Piece → Tally
tally_of h builds all list = record {
  pieces = length list;
  memory = memory_of h builds list;
  files = length (files_of h builds list);
  disk = disk_of h builds
      all list;
}

-- the four numbers behind each group
abbrev pub tally : ℕ → History → Tally
tally page h = tally_of h (builds page h) (pieces page h) (reached page h)
