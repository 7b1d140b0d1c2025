-- How the calls end that write and move pieces. Own.
use Rattle.std.specs.Prelude.{ℕ, ◌≡◌, ◌≢◌, ◌+◌, ◌-◌, ◌^◌, ◌⊎◌, min, true, false, List, [], ◌∷◌, length, Option, Result, Ok, Err, is_none, IfSome, IsSomeAnd}
use Rattle.blob_words.specs.declared.number.PieceNo.{PieceNo}
use Rattle.blob_words.specs.declared.number.PageNo.{PageNo}
use Rattle.blob_words.specs.declared.number.JobNo.{JobNo}
use Rattle.blob_source.specs.Faults.{Rose}
use Rattle.item_shares.specs.declared.shares.Share.{Share}
use Rattle.item_shares.specs.Shares.{share_at}
use Rattle.page_disk.specs.declared.change.Change.{Change}
use Rattle.page_disk.specs.declared.disk.PageDisk.{Ghosts}
use Rattle.page_disk.specs.declared.change.Change.TheVariants as changes
use Rattle.page_disk.specs.Changes.{with_change}
use Rattle.page_files.specs.declared.ending.JobEnd.{JobEnd}
use Rattle.page_files.specs.declared.ending.JobEnd.TheVariants as job_ends
use Rattle.page_files.specs.declared.ending.MoveEnd.{MoveEnd}
use Rattle.page_files.specs.declared.ending.MoveEnd.TheVariants as move_ends
use Rattle.page_files.specs.declared.fault.JobFault.{JobFault}
use Rattle.page_files.specs.declared.fault.JobFault.TheVariants as job_faults
use Rattle.page_files.specs.declared.fault.MoveFault.{MoveFault}
use Rattle.page_files.specs.declared.fault.MoveFault.TheVariants as move_faults
use Rattle.page_files.specs.declared.fault.StoreFault.{StoreFault}
use Rattle.page_files.specs.declared.fault.StoreFault.TheVariants as store_faults
use Rattle.page_files.specs.declared.held.Held.{Held}
use Rattle.page_files.specs.declared.page.Page.TheVariants.{Torn, Whole}
use Rattle.page_files.specs.Pieces.{bytes_of, names, placed}
use Rattle.page_files.specs.Items.{bytes_in, turned}
use Rattle.page_files.specs.Writes.{read_of}
use Rattle.page_files.specs.Files.{Files, alone, is_compact_job, is_page_job, left_of, page_no, source_of, turned_off, unreserved, with_page, without_job, without_pieces}

-- what a call sees: the page files, the items, what the disk did, where it tells, its count of faults and its meter
pub record Scene : Type 0 where
  pub files : Files
  pub shares : List (Option Share)
  pub changes : Option (List Change)
  pub faults : ℕ
  pub meter : ℕ

-- what is seen over a disk
abbrev pub scene : {D : Type 0} → Ghosts D → Files → List (Option Share) → D → Scene
scene disks files shares disk = record {
  files = files;
  shares = shares;
  changes = disks.changes disk;
  faults = disks.faults disk;
  meter = disks.meter disk;
}

-- the number of the next page
abbrev pub next_page : Scene → PageNo
next_page scene = page_no (length scene.files.pages)

-- the pieces left in the job in flight
abbrev pub left : Scene → List Held
left scene = left_of scene.files.job

-- the pieces left, one after the other from the start of a page
abbrev pub left_placed : Scene → List Held
left_placed scene = placed 0 (left scene)

-- the items and what the disk did are as they were
abbrev pub IsStill : Scene → Scene → Type 0
IsStill old new = (new.shares ≡ old.shares) × (new.changes ≡ old.changes)

-- nothing was asked of the disk that failed or that read
abbrev pub IsUnread : Scene → Scene → Type 0
IsUnread old new = (new.faults ≡ old.faults) × (new.meter ≡ old.meter)

-- all the pieces left were read, and nothing failed; a meter is told up to the greatest that a 64-bit number holds
abbrev pub AreRead : Scene → Scene → Type 0
AreRead old new = (new.faults ≡ old.faults) × (min new.meter (2 ^ 64 - 1) ≡ min (old.meter + bytes_of (left old)) (2 ^ 64 - 1))

-- the pieces left are now in the next page: each item says so, and every other slot is as it was
abbrev pub AreTurned : Scene → Scene → Type 0
AreTurned old new = (slot : ℕ) → share_at new.shares slot ≡ turned (next_page old) (left_placed old) slot (share_at old.shares slot)

-- the write of the next page failed, and the items are as they were
abbrev pub IsTorn : Scene → Scene → Type 0
IsTorn old new = (new.shares ≡ old.shares) × (new.changes ≡ with_change (changes.Torn (next_page old)) old.changes) × Rose old.faults new.faults

-- the end of a page job: the pieces left are in the next page, whose bytes are those of the items in memory
abbrev pub LeftWritten : Scene → Scene → Result JobEnd JobFault → Type 0
LeftWritten old new (Ok (job_ends.Paged page pieces)) =
    (left old ≢ []) × (page ≡ next_page old) × (pieces ≡ names (left old))
    × (new.files ≡ with_page (Whole (bytes_of (left old)) (left_placed old)) (without_job old.files))
    × (new.changes ≡ with_change (changes.Put page (bytes_in old.shares (left old))) old.changes)
    × AreTurned old new × (new.faults ≡ old.faults)
LeftWritten old new (Ok job_ends.Empty) = (left old ≡ []) × (new.files ≡ without_job old.files) × IsStill old new × (new.faults ≡ old.faults)
LeftWritten old new (Err job_faults.NoJob) = ⊥
LeftWritten old new (Err (job_faults.Failed page)) =
    (left old ≢ []) × (page ≡ next_page old) × (new.files ≡ with_page Torn (turned_off old.files)) × IsTorn old new
LeftWritten old new (Err job_faults.NoMemory) = (new.files ≡ old.files) × IsStill old new × (new.faults ≡ old.faults)

-- a page job ends where it is in flight, else nothing changes
abbrev pub JobEnds : JobNo → Scene → Scene → Result JobEnd JobFault → Type 0
JobEnds job old new (Err job_faults.NoJob) =
    (is_page_job job old.files.job ≡ false) × (new.files ≡ old.files) × IsStill old new × (new.faults ≡ old.faults)
JobEnds job old new end = (is_page_job job old.files.job ≡ true) × LeftWritten old new end

-- what was read of the page that the job moves, where the disk tells
abbrev pub moved_bytes : PageNo → Scene → List Change → List ℕ
moved_bytes source scene changes = read_of source changes (left scene)

-- the end of the compact job of a page: the pieces left are in the next page and reached in their old one no more; want of memory comes before the first
-- read or after the last good one, and never in place of a read that failed
abbrev pub LeftMoved : PageNo → Scene → Scene → Result MoveEnd MoveFault → Type 0
LeftMoved source old new (Ok (move_ends.Moved page pieces)) =
    (left old ≢ []) × (page ≡ next_page old) × (pieces ≡ names (left old))
    × (new.files ≡ without_pieces source.0 (left old) (with_page (Whole (bytes_of (left old)) (left_placed old)) (without_job old.files)))
    × IfSome old.changes (λ before. new.changes ≡ with_change (changes.Put page (moved_bytes source old before)) old.changes)
    × (is_none old.changes ≡ is_none new.changes)
    × AreTurned old new × AreRead old new
LeftMoved source old new (Ok move_ends.Empty) = (left old ≡ []) × (new.files ≡ without_job old.files) × IsStill old new × IsUnread old new
LeftMoved source old new (Err move_faults.NoJob) = ⊥
LeftMoved source old new (Err (move_faults.Unread page)) =
    (left old ≢ []) × (page ≡ source) × (new.files ≡ turned_off old.files) × IsStill old new × Rose old.faults new.faults
LeftMoved source old new (Err (move_faults.Failed page)) =
    (left old ≢ []) × (page ≡ next_page old) × (new.files ≡ with_page Torn (turned_off old.files)) × IsTorn old new
LeftMoved source old new (Err move_faults.NoMemory) = (new.files ≡ old.files) × IsStill old new × (IsUnread old new ⊎ AreRead old new)

-- a compact job ends where it is in flight, else nothing changes
abbrev pub MoveEnds : JobNo → Scene → Scene → Result MoveEnd MoveFault → Type 0
MoveEnds job old new (Err move_faults.NoJob) =
    (is_compact_job job old.files.job ≡ false) × (new.files ≡ old.files) × IsStill old new × IsUnread old new
MoveEnds job old new end =
    (is_compact_job job old.files.job ≡ true) × IsSomeAnd (source_of old.files.job) (λ source. LeftMoved source old new end)

-- a reserved piece with its bytes: it is in the next page, alone; a fault leaves it reserved
abbrev pub StoreEnds : PieceNo → ℕ → List ℕ → Scene → Scene → Result PageNo StoreFault → Type 0
StoreEnds piece slot bytes old new (Ok page) =
    (page ≡ next_page old)
    × (new.files ≡ with_page (Whole (length bytes) (alone piece slot (length bytes) ∷ [])) (unreserved (length bytes) old.files))
    × (new.changes ≡ with_change (changes.Put page bytes) old.changes)
    × ((other : ℕ) → share_at new.shares other ≡ turned page (alone piece slot (length bytes) ∷ []) other (share_at old.shares other))
    × (new.faults ≡ old.faults)
StoreEnds piece slot bytes old new (Err (store_faults.Failed page)) =
    (page ≡ next_page old) × (new.files ≡ with_page Torn old.files) × IsTorn old new
StoreEnds piece slot bytes old new (Err store_faults.NoMemory) =
    (new.files ≡ old.files) × IsStill old new × (new.faults ≡ old.faults)
