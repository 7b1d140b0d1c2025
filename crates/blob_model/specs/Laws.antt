-- What holds of the definitions for all histories. Own.
use Rattle.std.specs.Prelude.{◌≡◌, ℕ, ◌||◌, Bool, true, false, List}
use Rattle.blob_words.specs.declared.limits.Limits.{Limits}
use Rattle.session_script.specs.declared.event.Event.{Event}
use Rattle.session_script.specs.declared.event.Event.TheVariants as events
use Rattle.answer_text.specs.declared.answer.Answer.{Answer}
use Rattle.answer_text.specs.declared.answer.Answer.TheVariants as answers
use Rattle.answer_text.specs.declared.refusal.Refusal.{Refusal}
use Rattle.blob_model.specs.Session.{Session}
use Rattle.blob_model.specs.History.{History, heard, refused, said}
use Rattle.blob_model.specs.Renderers.{spawned, is_dead}
use Rattle.blob_model.specs.Recorded.{recorded, last_stamp, file_names, content}
use Rattle.blob_model.specs.Builds.{builds}
use Rattle.blob_model.specs.Standing.{ended, was_granted}
use Rattle.blob_model.specs.Transport.{arrivals}
use Rattle.blob_model.specs.Handles.{count}
use Rattle.blob_model.specs.Entries.{entries}
use Rattle.blob_model.specs.Readers.{readers}
use Rattle.blob_model.specs.Pages.{pages, next_page, asked}
use Rattle.blob_model.specs.Jobs.{in_flight, next_job, paging, turns_off}
use Rattle.blob_model.specs.Changes.{changes}
use Rattle.blob_model.specs.Victims.{last_uses}

-- a notion changes with these accepted lines, by their first answer, and with these further answers alone; a refused line changes nothing
pub record ChangesWith {X : Type 0} (notion : History → X) (lines : Event → Answer → Bool) (further : Answer → Bool) : Type 0 where
  pub by_line : (h : History) (event : Event) (answer : Answer) → lines event answer ≡ false → notion (heard h event answer) ≡ notion h
  pub by_refusal : (h : History) (event : Event) (why : Refusal) → notion (refused h event why) ≡ notion h
  pub by_answer : (h : History) (answer : Answer) → further answer ≡ false → notion (said h answer) ≡ notion h

-- no line, and no further answer
abbrev pub never : Answer → Bool
never answer = false

-- lines by their event alone, and by their answer alone
abbrev pub by_event : (Event → Bool) → Event → Answer → Bool
by_event test event answer = test event

abbrev pub by_first : (Answer → Bool) → Event → Answer → Bool
by_first test event answer = test answer

abbrev pub is_spawn : Event → Bool
is_spawn (events.Spawn renderer origin) = true
is_spawn event = false

abbrev pub is_death : Event → Bool
is_death (events.Die renderer) = true
is_death events.Finish = true
is_death event = false

abbrev pub is_file : Event → Bool
is_file (events.File name stamp bytes) = true
is_file event = false

abbrev pub is_file_or_gone : Event → Bool
is_file_or_gone (events.Gone name) = true
is_file_or_gone event = is_file event

abbrev pub is_build : Event → Bool
is_build (events.Build renderer name kind parts) = true
is_build (events.Slice renderer name source from to kind) = true
is_build event = false

abbrev pub is_segment : Event → Bool
is_segment (events.Segment renderer b segment bytes) = true
is_segment event = false

-- lines that change who holds a blob
abbrev pub moves_handle : Event → Bool
moves_handle (events.Pass renderer to b) = true
moves_handle (events.Drop renderer b) = true
moves_handle event = is_build event || is_death event

-- lines that change the URL entries
abbrev pub moves_entry : Event → Answer → Bool
moves_entry (events.Url renderer b text) answer = true
moves_entry (events.Revoke renderer text) answers.Revoked = true
moves_entry event answer = is_death event

-- lines that open, move on or close a reader
abbrev pub moves_reader : Event → Answer → Bool
moves_reader (events.Read renderer reader b off len) answer = true
moves_reader (events.Fetch renderer reader text off len) answer = true
moves_reader (events.Step reader) (answers.Given number bytes) = true
moves_reader (events.Step reader) (answers.Ended number status) = true
moves_reader (events.Step reader) (answers.FileChanged number name) = true
moves_reader (events.Step reader) (answers.PageFault number file) = true
moves_reader (events.Step reader) (answers.HandleFailed number slot) = true
moves_reader (events.Cancel renderer reader) answer = true
moves_reader event answer = is_death event

-- answers that end a blob, that grant one, and that get one done
abbrev pub is_ending : Answer → Bool
is_ending (answers.Done b) = true
is_ending (answers.Broken b status) = true
is_ending (answers.Dropped b) = true
is_ending answer = false

abbrev pub is_grant : Answer → Bool
is_grant (answers.Granted b) = true
is_grant answer = false

abbrev pub is_done_answer : Answer → Bool
is_done_answer (answers.Done b) = true
is_done_answer answer = false

-- answers that tell of a page file written, of a write that failed too, and of a removal
abbrev pub is_written : Answer → Bool
is_written (answers.Stored file piece) = true
is_written (answers.Paged job file list) = true
is_written (answers.Moved job file list) = true
is_written answer = false

abbrev pub is_write : Answer → Bool
is_write (answers.StoreFailed file) = true
is_write (answers.PageFailed job file) = true
is_write (answers.MoveFailed job file) = true
is_write answer = is_written answer

abbrev pub is_removal : Answer → Bool
is_removal (answers.Removed file) = true
is_removal (answers.Left file) = true
is_removal answer = false

-- answers that tell of a change on the disk
abbrev pub is_change : Answer → Bool
is_change (answers.Removed file) = true
is_change (answers.Left file) = true
is_change answer = is_write answer

-- answers that start a job, and that end one
abbrev pub is_start : Answer → Bool
is_start (answers.Job job list) = true
is_start (answers.Compacting job file list) = true
is_start answer = false

abbrev pub is_start_or_end : Answer → Bool
is_start_or_end (answers.Paged job file list) = true
is_start_or_end (answers.Empty job) = true
is_start_or_end (answers.Moved job file list) = true
is_start_or_end answer = is_start answer || turns_off answer

-- a step that gave bytes
abbrev pub is_reading : Event → Answer → Bool
is_reading (events.Step reader) (answers.Given number bytes) = true
is_reading event answer = false

-- after which lines and answers alone each notion changes
pub record ChangeLaws : Type 0 where
  pub renderers : ChangesWith spawned (by_event is_spawn) never
  pub deaths : (number : ℕ) → ChangesWith (λ (h : History). is_dead h number) (by_event is_death) never
  pub states : (name : List ℕ) → ChangesWith (λ (h : History). recorded h name) (by_event is_file_or_gone) never
  pub stamps : (name : List ℕ) → ChangesWith (λ (h : History). last_stamp h name) (by_event is_file) never
  pub names : ChangesWith file_names (by_event is_file) never
  pub contents : (name : List ℕ) (stamp : ℕ) → ChangesWith (λ (h : History). content h name stamp) (by_event is_file) never
  pub blobs : (page : ℕ) → ChangesWith (builds page) (by_event is_build) never
  pub ends : (name : ℕ) → ChangesWith (λ (h : History). ended h name) (by_first is_ending) is_ending
  pub grants : (name : ℕ) → ChangesWith (λ (h : History). was_granted h name) (by_first is_grant) is_grant
  pub segments : (name : ℕ) → ChangesWith (λ (h : History). arrivals h name) (by_event is_segment) never
  pub handles : (holder name : ℕ) → ChangesWith (λ (h : History). count h holder name) (by_event moves_handle) never
  pub urls : ChangesWith entries moves_entry never
  pub open_readers : (page : ℕ) → ChangesWith (readers page) moves_reader never
  pub page_files : ChangesWith pages (by_first is_written) is_written
  pub page_numbers : ChangesWith next_page (by_first is_write) is_write
  pub removals : ChangesWith asked (by_first is_removal) is_removal
  pub flying : ChangesWith in_flight (by_first is_start_or_end) is_start_or_end
  pub job_numbers : ChangesWith next_job (by_first is_start) is_start
  pub pages_on : ChangesWith paging (by_first turns_off) never
  pub disk_changes : (s : Session) → ChangesWith (changes s) (by_first is_change) is_change
  pub uses : (l : Limits) → ChangesWith (last_uses l) is_reading is_done_answer
