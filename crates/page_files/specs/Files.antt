-- Page files with what is reserved and the job in flight, and what each call does to them. Own.
use Rattle.std.specs.Prelude.{ℕ, ◌≡◌, ◌≢◌, ◌+◌, ◌-◌, ◌^◌, ◌<◌, ◌≤◌, ◌||◌, ◌&&◌, Bool, true, false, List, [], ◌∷◌, ◌++◌, not, map, fold, set, length, Option, Some, None, is_some, is_none, nat_eq, if◌then◌else◌}
use Rattle.std.specs.Option.{option_map}
use Rattle.std.specs.List.{count_by, list_any, position, AllByRecursion, IsDistinct}
use Rattle.blob_words.specs.declared.number.PieceNo.{PieceNo}
use Rattle.blob_words.specs.declared.number.PageNo.{PageNo}
use Rattle.blob_words.specs.declared.number.JobNo.{JobNo}
use Rattle.blob_source.specs.Faults.{RoseBy}
use Rattle.page_disk.specs.declared.change.Change.{Change}
use Rattle.page_disk.specs.declared.change.Change.TheVariants.{Remove, Left}
use Rattle.page_disk.specs.Changes.{removes, writes}
use Rattle.page_files.specs.declared.ending.Closed.{Closed}
use Rattle.page_files.specs.declared.held.Held.{Held}
use Rattle.page_files.specs.declared.job.Job.{Job}
use Rattle.page_files.specs.declared.page.Page.{Page}
use Rattle.page_files.specs.declared.page.Page.TheVariants.{Asked}
use Rattle.page_files.specs.Pieces.{bytes_of, numbers, without, HasBytes}
use Rattle.page_files.specs.Pages.{can_move, is_unasked, page_at, page_charge, released_at}

-- the bytes that may be charged, the pages by their numbers, the bytes reserved, the job in flight, whether pieces may still be paged, and how many jobs were
-- started
pub record Files : Type 0 where
  pub limit : ℕ
  pub pages : List Page
  pub reserved : ℕ
  pub job : Option Job
  pub paging : Bool
  pub jobs : ℕ

-- no pages yet
abbrev pub new_files : ℕ → Files
new_files limit = record { limit = limit; pages = []; reserved = 0; job = None; paging = true; jobs = 0 }

-- a page and a job by their bare numbers
abbrev pub page_no : ℕ → PageNo
page_no number = record { 0 = number }

abbrev pub job_no : ℕ → JobNo
job_no number = record { 0 = number }

-- the pieces left in a job
abbrev pub left_of : Option Job → List Held
left_of None = []
left_of (Some job) = job.pieces

-- the pieces left in a job, of which there are some
abbrev pub AreLeft : Option Job → List Held → Type 0
AreLeft job pieces =
    (pieces ≡ left_of job) × (pieces ≢ []) × IsDistinct nat_eq (numbers pieces)
    × AllByRecursion HasBytes pieces × (bytes_of pieces < 2 ^ 64)

-- what is charged: the pages that hold a reached piece, what is reserved, and the pieces left in the job in flight
abbrev pub charge_by : List Page → ℕ → Option Job → ℕ
charge_by pages reserved job = page_charge pages + reserved + bytes_of (left_of job)

-- the same of page files
abbrev pub charge : Files → ℕ
charge files = charge_by files.pages files.reserved files.job

-- how many bytes may still be charged
abbrev pub room : Files → ℕ
room files = files.limit - charge files

-- the least thin page whose reached pieces have room once more
abbrev pub thin : Files → Option PageNo
thin files = option_map page_no (position (can_move (room files)) files.pages)

-- the page that the job in flight moves pieces out of
abbrev pub source_of : Option Job → Option PageNo
source_of None = None
source_of (Some job) = job.source

-- whether the job in flight has this number
abbrev pub is_in_flight : JobNo → Option Job → Bool
is_in_flight number None = false
is_in_flight number (Some job) = nat_eq job.number.0 number.0

-- whether it has this number and writes pieces of memory
abbrev pub is_page_job : JobNo → Option Job → Bool
is_page_job number job = is_in_flight number job && is_none (source_of job)

-- whether it has this number and moves pieces
abbrev pub is_compact_job : JobNo → Option Job → Bool
is_compact_job number job = is_in_flight number job && is_some (source_of job)

-- a job without a piece
abbrev pub struck : PieceNo → Job → Job
struck piece job = record job { pieces = without piece job.pieces }

-- pieces of a page are reached there no more
abbrev pub without_pieces : ℕ → List Held → Files → Files
without_pieces number pieces files = record files { pages = fold (λ (pages : List Page) (held : Held). released_at number held.piece pages) files.pages pieces }

-- so many bytes fewer are reserved
abbrev pub unreserved : ℕ → Files → Files
unreserved bytes files = record files { reserved = files.reserved - bytes }

-- a piece from the start of a page on
abbrev pub alone : PieceNo → ℕ → ℕ → Held
alone piece slot len = record { piece = piece; slot = slot; off = 0; len = len }

-- a job more, in flight from now on
abbrev pub with_job : Option PageNo → List Held → Files → Files
with_job source pieces files = record files { job = Some (record { number = job_no files.jobs; source = source; pieces = pieces }); jobs = files.jobs + 1 }

-- the removal of a page was asked for
abbrev pub asked : ℕ → Files → Files
asked page files = record files { pages = set files.pages page Asked }

-- one page more
abbrev pub with_page : Page → Files → Files
with_page page files = record files { pages = files.pages ++ page ∷ [] }

-- the job in flight has ended
abbrev pub without_job : Files → Files
without_job files = record files { job = None }

-- the job in flight has failed: it has ended, and paging is off from now on
abbrev pub turned_off : Files → Files
turned_off files = record files { job = None; paging = false }

-- whether a disk wrote the page, whole or not, and was not asked to remove it
abbrev pub is_standing : ℕ → List Change → Bool
is_standing page changes = list_any (writes page) changes && not (list_any (removes page) changes)

-- whether a change names the page
abbrev pub is_named : ℕ → List Change → Bool
is_named page changes = list_any (writes page) changes || list_any (removes page) changes

-- the pages not asked for yet are exactly those that the disk wrote and was not asked to remove, and no page from the next number on is named there
pub record Agrees (pages : List Page) (changes : List Change) : Type 0 where
  pub standing : (page : ℕ) → is_standing page changes ≡ is_unasked (page_at pages page)
  pub above : (page : ℕ) → length pages ≤ page → is_named page changes ≡ false

-- the pages not asked for yet, from a number on, rising
abbrev pub unasked_from : ℕ → List Page → List ℕ
unasked_from number [] = []
unasked_from number (page ∷ pages) = if is_unasked page then number ∷ unasked_from (number + 1) pages else unasked_from (number + 1) pages

-- the removal of a page, which goes or is left
abbrev pub removal : ℕ → Bool → Change
removal page goes = if goes then Remove (page_no page) else Left (page_no page)

-- the removals of pages, one after the other
abbrev pub removals : List ℕ → List Bool → List Change
removals [] goes = []
removals (page ∷ pages) [] = []
removals (page ∷ pages) (one ∷ goes) = removal page one ∷ removals pages goes

-- every page was asked for
abbrev pub all_asked : List Page → List Page
all_asked pages = map (λ page. Asked) pages

-- the end: each page not asked for yet is asked for once, rising, whether it goes or is left
pub record Closes (pages : List Page) (old new : Option (List Change)) (count later : ℕ) (closed : Closed) : Type 0 where
  pub goes : List Bool
  pub once : length goes ≡ length (unasked_from 0 pages)
  pub changes : new ≡ option_map (λ told. told ++ removals (unasked_from 0 pages) goes) old
  pub removed : closed.removed ≡ count_by (λ one. one) goes
  pub left : closed.left ≡ count_by not goes
  pub faults : RoseBy closed.left count later
