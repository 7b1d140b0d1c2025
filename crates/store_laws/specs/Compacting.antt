-- A job starts to move the pieces of a thin page file, the last list of settling: the parts stand for the history with it. Own.
use Rattle.std.specs.Prelude.{ℕ, ◌≡◌, ◌&&◌, List, [], is_none, Option, None, Some, if◌then◌else◌}
use Rattle.std.specs.Option.{option_map, option_to_list}
use Rattle.blob_words.specs.declared.number.PageNo.{PageNo}
use Rattle.answer_text.specs.declared.answer.Answer.{Answer}
use Rattle.answer_text.specs.declared.answer.Answer.TheVariants as answers
use Rattle.data_handles.specs.Table.{Table as HandleTable}
use Rattle.page_disk.specs.declared.change.Change.{Change}
use Rattle.page_files.specs.Files.{thin, with_job, Files}
use Rattle.page_files.specs.Pages.{pieces_at}
use Rattle.page_files.specs.Pieces.{names}
use Rattle.blob_model.specs.History.{History, said}
use Rattle.blob_model.specs.Jobs.{next_job}
use Rattle.blob_model.specs.Session.{Session}
use Rattle.blob_model.specs.Settle.{compactions, job_no}
use Rattle.store_laws.specs.AgreeLaws.{IsKept}
use Rattle.store_laws.specs.Late.{IsLate}
use Rattle.store_laws.specs.Stands.{Parts}

-- how the job of this number is told that moves the pieces held in a page file
abbrev pub moving : ℕ → Files → PageNo → Answer
moving job files page = answers.Compacting (job_no job) page (names (pieces_at files.pages page.0))

-- the compaction that the page files call for: of the least thin page file whose pieces have room once more
abbrev pub compaction_by : ℕ → Files → List Answer
compaction_by job files = option_to_list (option_map (moving job files) (thin files))

-- the parts with such a job in flight
abbrev pub with_move : PageNo → Parts → Parts
with_move page parts = record parts { pages = with_job (Some page) (pieces_at parts.pages.pages page.0) parts.pages }

pub record CompactionsStand : Type 0 where
  -- where a job may start, the compaction that is owed is that one
  pub told : (s : Session) (h : History) (parts : Parts) (told : Option (List Change)) (table : HandleTable) → IsLate s h parts told table
      → IsKept s h parts.book parts.shares parts.rows parts.quota parts.pages
      → (if parts.pages.paging && is_none parts.pages.job then compaction_by (next_job h) parts.pages else []) ≡ compactions s h
  -- the parts stand behind it
  pub late : (s : Session) (h : History) (parts : Parts) (told : Option (List Change)) (table : HandleTable) → IsLate s h parts told table
      → IsKept s h parts.book parts.shares parts.rows parts.quota parts.pages → parts.pages.job ≡ None → (page : PageNo)
      → IsLate s (said h (moving (next_job h) parts.pages page)) (with_move page parts) told table
