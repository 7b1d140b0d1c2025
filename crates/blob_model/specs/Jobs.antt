-- Jobs on page files: writing pieces of memory, or moving the reached pieces of a thin page. Own.
use Rattle.std.specs.Prelude.{ℕ, ◌+◌, ◌==◌, Bool, true, false, List, Option, None, Some, if◌then◌else◌}
use Rattle.std.specs.Option.{option_map_or}
use Rattle.std.specs.List.{list_any}
use Rattle.blob_words.specs.declared.version.Version.{Version}
use Rattle.blob_words.specs.declared.version.Version.TheVariants.{One, Two}
use Rattle.session_script.specs.declared.event.Event.{Event}
use Rattle.session_script.specs.declared.event.Event.TheVariants as events
use Rattle.answer_text.specs.declared.answer.Answer.{Answer}
use Rattle.answer_text.specs.declared.answer.Answer.TheVariants as answers
use Rattle.blob_model.specs.History.{History, start, heard, refused, said}
use Rattle.blob_model.specs.Pages.{numbers}

-- a job: its number, the page that it moves pieces out of (none for a page job), and its pieces
pub record Job : Type 0 where
  pub number : ℕ
  pub source : Option ℕ
  pub pieces : List ℕ

-- no job is in flight any more where this one ended
abbrev pub without_job : ℕ → Option Job → Option Job
without_job number None = None
without_job number (Some job) = if job.number == number then None else Some job

-- `job` and `compact` start a job; the answers to its `disk` or `lost` line end it
abbrev pub in_flight_after : Answer → Option Job → Option Job
in_flight_after (answers.Job job list) before = Some (record { number = job.0; source = None; pieces = numbers list })
in_flight_after (answers.Compacting job file list) before = Some (record { number = job.0; source = Some file.0; pieces = numbers list })
in_flight_after (answers.Paged job file list) before = without_job job.0 before
in_flight_after (answers.Empty job) before = without_job job.0 before
in_flight_after (answers.PageFailed job file) before = without_job job.0 before
in_flight_after (answers.Moved job file list) before = without_job job.0 before
in_flight_after (answers.MoveFailed job file) before = without_job job.0 before
in_flight_after (answers.MoveUnread job file) before = without_job job.0 before
in_flight_after (answers.LostJob job) before = without_job job.0 before
in_flight_after answer before = before

-- the job in flight
abbrev pub in_flight : History → Option Job
in_flight start = None
in_flight (heard h event answer) = in_flight_after answer (in_flight h)
in_flight (refused h event why) = in_flight h
in_flight (said h answer) = in_flight_after answer (in_flight h)

-- whether the job in flight names the piece
abbrev pub is_in_job : History → ℕ → Bool
is_in_job h number = option_map_or (λ (job : Job). list_any (λ (named : ℕ). named == number) job.pieces) (in_flight h) false

-- jobs of both kinds are numbered together
abbrev pub next_job_after : Answer → ℕ → ℕ
next_job_after (answers.Job job list) before = before + 1
next_job_after (answers.Compacting job file list) before = before + 1
next_job_after answer before = before

abbrev pub next_job : History → ℕ
next_job start = 0
next_job (heard h event answer) = next_job_after answer (next_job h)
next_job (refused h event why) = next_job h
next_job (said h answer) = next_job_after answer (next_job h)

-- the answers that turn paging off
abbrev pub turns_off : Answer → Bool
turns_off (answers.PageFailed job file) = true
turns_off (answers.LostJob job) = true
turns_off (answers.MoveFailed job file) = true
turns_off (answers.MoveUnread job file) = true
turns_off answer = false

-- whether pieces may go to page files
abbrev pub paging : History → Bool
paging start = true
paging (heard h event answer) = if turns_off answer then false else paging h
paging (refused h event why) = paging h
paging (said h answer) = paging h

-- whether the last line turned paging off
abbrev pub turned_off : History → Bool
turned_off start = false
turned_off (heard h event answer) = turns_off answer
turned_off (refused h event why) = false
turned_off (said h answer) = turned_off h

-- in a session of version 2 such a line breaks the blobs that wait
abbrev pub breaks_waiting : Version → History → Bool
breaks_waiting One h = false
breaks_waiting Two h = turned_off h

-- the blob of the last line, where that is a `data` line
abbrev pub data_blob_of : Event → Option ℕ
data_blob_of (events.Segment renderer b segment bytes) = Some b
data_blob_of event = None

abbrev pub data_blob : History → Option ℕ
data_blob start = None
data_blob (heard h event answer) = data_blob_of event
data_blob (refused h event why) = None
data_blob (said h answer) = data_blob h

-- the blob whose segment could not be stored in the last line
abbrev pub unstored_after : Answer → Option ℕ → Option ℕ → Option ℕ
unstored_after (answers.StoreFailed file) blob before = blob
unstored_after answer blob before = before

abbrev pub unstored : History → Option ℕ
unstored start = None
unstored (heard h event answer) = None
unstored (refused h event why) = None
unstored (said h answer) = unstored_after answer (data_blob h) (unstored h)
