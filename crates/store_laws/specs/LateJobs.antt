-- What holds once a job has started, in the last lists of settling: the parts stand for the history with it. Own.
use Rattle.std.specs.Prelude.{ℕ, ◌≡◌, ◌==◌, true, not, List, filter, Option, None}
use Rattle.std.specs.List.{AllByRecursion, list_any}
use Rattle.answer_text.specs.declared.answer.Answer.TheVariants as answers
use Rattle.data_handles.specs.Table.{Table as HandleTable}
use Rattle.page_disk.specs.declared.change.Change.{Change}
use Rattle.page_files.specs.Files.{with_job}
use Rattle.page_files.specs.Items.{IsMemoryIn}
use Rattle.page_files.specs.declared.held.Held.{Held}
use Rattle.blob_model.specs.History.{History, said}
use Rattle.blob_model.specs.Jobs.{next_job}
use Rattle.blob_model.specs.Session.{Session}
use Rattle.blob_model.specs.Settle.{job_no, piece_list}
use Rattle.model_bridges.specs.Bridges.{held_numbers}
use Rattle.store_laws.specs.Late.{IsLate}
use Rattle.store_laws.specs.LateLists.{taken}
use Rattle.store_laws.specs.Stands.{Parts}

-- the order of use without the pieces of these numbers
abbrev pub without_all : List ℕ → List (ℕ × ℕ) → List (ℕ × ℕ)
without_all numbers order = filter (λ (used : ℕ × ℕ). not (list_any (λ (number : ℕ). number == used.0) numbers)) order

-- the parts with a page job in flight, whose pieces are in the order of use no more
abbrev pub with_page_job : List Held → Parts → Parts
with_page_job list parts =
    record parts { pages = with_job None list parts.pages; recent = without_all (held_numbers list) parts.recent }

-- where a job may start, and these pieces, each in memory in its slot, are those to take, the parts with their page job stand for the history that tells it
abbrev pub PageJobsStand : Type 0
PageJobsStand =
    (s : Session) (h : History) (parts : Parts) (told : Option (List Change)) (table : HandleTable) → IsLate s h parts told table
    → parts.pages.paging ≡ true → parts.pages.job ≡ None → (list : List Held) → held_numbers list ≡ taken s parts.quota parts.pages parts.recent
    → AllByRecursion (IsMemoryIn parts.shares) list
    → IsLate s (said h (answers.Job (job_no (next_job h)) (piece_list (held_numbers list)))) (with_page_job list parts) told table
