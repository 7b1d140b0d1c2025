-- After which lines and answers alone each notion changes: cases, each computed.
use Rattle.std.proofs.Common.{◌≡◌, ℕ, true, false, List, refl}
use Rattle.blob_words.specs.declared.limits.Limits.{Limits}
use Rattle.session_script.specs.declared.event.Event.{Event}
use Rattle.session_script.specs.declared.event.Event.TheVariants as events
use Rattle.answer_text.specs.declared.answer.Answer.{Answer}
use Rattle.answer_text.specs.declared.answer.Answer.TheVariants as answers
use Rattle.blob_model.specs.Session.{Session}
use Rattle.blob_model.specs.History.{History, heard, said}
use Rattle.blob_model.specs.Renderers.{spawned, is_dead}
use Rattle.blob_model.specs.Recorded.{recorded, last_stamp, file_names, content}
use Rattle.blob_model.specs.Builds.{builds}
use Rattle.blob_model.specs.Standing.{ended, was_granted}
use Rattle.blob_model.specs.Transport.{arrivals}
use Rattle.blob_model.specs.Handles.{count}
use Rattle.blob_model.specs.Entries.{entries}
use Rattle.blob_model.specs.Readers.{readers}
use Rattle.blob_model.specs.Pages.{pages, next_page, asked}
use Rattle.blob_model.specs.Jobs.{in_flight, next_job, paging, turns_off}
use Rattle.blob_model.specs.Changes.{changes}
use Rattle.blob_model.specs.Victims.{last_uses}
use Rattle.blob_model.specs.Laws.{ChangeLaws, by_event, is_spawn, is_death, is_file, is_file_or_gone, is_build, is_segment, moves_handle, moves_entry, moves_reader, is_ending, is_grant, is_done_answer, is_written, is_write, is_removal, is_change, is_start, is_start_or_end, is_reading}

true_false : true ≡ false → ⊥
true_false e = cc

renderers-line : (h : History) (event : Event) (answer : Answer) → by_event is_spawn event answer ≡ false → spawned (heard h event answer) ≡ spawned h
renderers-line h (events.Spawn renderer origin) answer e = absurd (true_false e)
renderers-line h event answer e = refl

deaths-line : (number : ℕ) (h : History) (event : Event) (answer : Answer) → by_event is_death event answer ≡ false → is_dead (heard h event answer) number
    ≡ is_dead h number
deaths-line number h (events.Die renderer) answer e = absurd (true_false e)
deaths-line number h events.Finish answer e = absurd (true_false e)
deaths-line number h event answer e = refl

states-line : (name : List ℕ) (h : History) (event : Event) (answer : Answer) → by_event is_file_or_gone event answer ≡ false → recorded (heard h event answer)
    name ≡ recorded h name
states-line name h (events.File name' stamp bytes) answer e = absurd (true_false e)
states-line name h (events.Gone name') answer e = absurd (true_false e)
states-line name h event answer e = refl

stamps-line : (name : List ℕ) (h : History) (event : Event) (answer : Answer) → by_event is_file event answer ≡ false → last_stamp (heard h event answer) name
    ≡ last_stamp h name
stamps-line name h (events.File name' stamp bytes) answer e = absurd (true_false e)
stamps-line name h event answer e = refl

names-line : (h : History) (event : Event) (answer : Answer) → by_event is_file event answer ≡ false → file_names (heard h event answer) ≡ file_names h
names-line h (events.File name stamp bytes) answer e = absurd (true_false e)
names-line h event answer e = refl

contents-line : (name : List ℕ) (stamp : ℕ) (h : History) (event : Event) (answer : Answer) → by_event is_file event answer ≡ false
    → content (heard h event answer) name stamp ≡ content h name stamp
contents-line name stamp h (events.File name' stamp' bytes) answer e = absurd (true_false e)
contents-line name stamp h event answer e = refl

blobs-line : (page : ℕ) (h : History) (event : Event) (answer : Answer) → by_event is_build event answer ≡ false → builds page (heard h event answer)
    ≡ builds page h
blobs-line page h (events.Build renderer name kind parts) answer e = absurd (true_false e)
blobs-line page h (events.Slice renderer name source from to kind) answer e = absurd (true_false e)
blobs-line page h event answer e = refl

ends-line : (name : ℕ) (h : History) (event : Event) (answer : Answer) → is_ending answer ≡ false → ended (heard h event answer) name ≡ ended h name
ends-line name h event (answers.Done b) e = absurd (true_false e)
ends-line name h event (answers.Broken b status) e = absurd (true_false e)
ends-line name h event (answers.Dropped b) e = absurd (true_false e)
ends-line name h event answer e = refl

ends-said : (name : ℕ) (h : History) (answer : Answer) → is_ending answer ≡ false → ended (said h answer) name ≡ ended h name
ends-said name h (answers.Done b) e = absurd (true_false e)
ends-said name h (answers.Broken b status) e = absurd (true_false e)
ends-said name h (answers.Dropped b) e = absurd (true_false e)
ends-said name h answer e = refl

grants-line : (name : ℕ) (h : History) (event : Event) (answer : Answer) → is_grant answer ≡ false → was_granted (heard h event answer) name
    ≡ was_granted h name
grants-line name h event (answers.Granted b) e = absurd (true_false e)
grants-line name h event answer e = refl

grants-said : (name : ℕ) (h : History) (answer : Answer) → is_grant answer ≡ false → was_granted (said h answer) name ≡ was_granted h name
grants-said name h (answers.Granted b) e = absurd (true_false e)
grants-said name h answer e = refl

segments-line : (name : ℕ) (h : History) (event : Event) (answer : Answer) → by_event is_segment event answer ≡ false → arrivals (heard h event answer) name
    ≡ arrivals h name
segments-line name h (events.Segment renderer b segment bytes) answer e = absurd (true_false e)
segments-line name h event answer e = refl

handles-line : (holder : ℕ) (name : ℕ) (h : History) (event : Event) (answer : Answer) → by_event moves_handle event answer ≡ false
    → count (heard h event answer) holder name ≡ count h holder name
handles-line holder name h (events.Build renderer name' kind parts) answer e = absurd (true_false e)
handles-line holder name h (events.Slice renderer name' source from to kind) answer e = absurd (true_false e)
handles-line holder name h (events.Pass renderer to b) answer e = absurd (true_false e)
handles-line holder name h (events.Drop renderer b) answer e = absurd (true_false e)
handles-line holder name h (events.Die renderer) answer e = absurd (true_false e)
handles-line holder name h events.Finish answer e = absurd (true_false e)
handles-line holder name h event answer e = refl

urls-line : (h : History) (event : Event) (answer : Answer) → moves_entry event answer ≡ false → entries (heard h event answer) ≡ entries h
urls-line h (events.Url renderer b text) answer e = absurd (true_false e)
urls-line h (events.Revoke renderer text) answers.Revoked e = absurd (true_false e)
urls-line h (events.Die renderer) answer e = absurd (true_false e)
urls-line h events.Finish answer e = absurd (true_false e)
urls-line h event answer e = refl

open_readers-line : (page : ℕ) (h : History) (event : Event) (answer : Answer) → moves_reader event answer ≡ false → readers page (heard h event answer)
    ≡ readers page h
open_readers-line page h (events.Read renderer reader b off len) answer e = absurd (true_false e)
open_readers-line page h (events.Fetch renderer reader text off len) answer e = absurd (true_false e)
open_readers-line page h (events.Step reader) (answers.Given number bytes) e = absurd (true_false e)
open_readers-line page h (events.Step reader) (answers.Ended number status) e = absurd (true_false e)
open_readers-line page h (events.Step reader) (answers.FileChanged number name) e = absurd (true_false e)
open_readers-line page h (events.Step reader) (answers.PageFault number file) e = absurd (true_false e)
open_readers-line page h (events.Step reader) (answers.HandleFailed number slot) e = absurd (true_false e)
open_readers-line page h (events.Cancel renderer reader) answer e = absurd (true_false e)
open_readers-line page h (events.Die renderer) answer e = absurd (true_false e)
open_readers-line page h events.Finish answer e = absurd (true_false e)
open_readers-line page h event answer e = refl

page_files-line : (h : History) (event : Event) (answer : Answer) → is_written answer ≡ false → pages (heard h event answer) ≡ pages h
page_files-line h event (answers.Stored file piece) e = absurd (true_false e)
page_files-line h event (answers.Paged job file list) e = absurd (true_false e)
page_files-line h event (answers.Moved job file list) e = absurd (true_false e)
page_files-line h event answer e = refl

page_files-said : (h : History) (answer : Answer) → is_written answer ≡ false → pages (said h answer) ≡ pages h
page_files-said h (answers.Stored file piece) e = absurd (true_false e)
page_files-said h (answers.Paged job file list) e = absurd (true_false e)
page_files-said h (answers.Moved job file list) e = absurd (true_false e)
page_files-said h answer e = refl

page_numbers-line : (h : History) (event : Event) (answer : Answer) → is_write answer ≡ false → next_page (heard h event answer) ≡ next_page h
page_numbers-line h event (answers.Stored file piece) e = absurd (true_false e)
page_numbers-line h event (answers.Paged job file list) e = absurd (true_false e)
page_numbers-line h event (answers.Moved job file list) e = absurd (true_false e)
page_numbers-line h event (answers.StoreFailed file) e = absurd (true_false e)
page_numbers-line h event (answers.PageFailed job file) e = absurd (true_false e)
page_numbers-line h event (answers.MoveFailed job file) e = absurd (true_false e)
page_numbers-line h event answer e = refl

page_numbers-said : (h : History) (answer : Answer) → is_write answer ≡ false → next_page (said h answer) ≡ next_page h
page_numbers-said h (answers.Stored file piece) e = absurd (true_false e)
page_numbers-said h (answers.Paged job file list) e = absurd (true_false e)
page_numbers-said h (answers.Moved job file list) e = absurd (true_false e)
page_numbers-said h (answers.StoreFailed file) e = absurd (true_false e)
page_numbers-said h (answers.PageFailed job file) e = absurd (true_false e)
page_numbers-said h (answers.MoveFailed job file) e = absurd (true_false e)
page_numbers-said h answer e = refl

removals-line : (h : History) (event : Event) (answer : Answer) → is_removal answer ≡ false → asked (heard h event answer) ≡ asked h
removals-line h event (answers.Removed file) e = absurd (true_false e)
removals-line h event (answers.Left file) e = absurd (true_false e)
removals-line h event answer e = refl

removals-said : (h : History) (answer : Answer) → is_removal answer ≡ false → asked (said h answer) ≡ asked h
removals-said h (answers.Removed file) e = absurd (true_false e)
removals-said h (answers.Left file) e = absurd (true_false e)
removals-said h answer e = refl

flying-line : (h : History) (event : Event) (answer : Answer) → is_start_or_end answer ≡ false → in_flight (heard h event answer) ≡ in_flight h
flying-line h event (answers.Job job list) e = absurd (true_false e)
flying-line h event (answers.Compacting job file list) e = absurd (true_false e)
flying-line h event (answers.Paged job file list) e = absurd (true_false e)
flying-line h event (answers.Empty job) e = absurd (true_false e)
flying-line h event (answers.PageFailed job file) e = absurd (true_false e)
flying-line h event (answers.Moved job file list) e = absurd (true_false e)
flying-line h event (answers.MoveFailed job file) e = absurd (true_false e)
flying-line h event (answers.MoveUnread job file) e = absurd (true_false e)
flying-line h event (answers.LostJob job) e = absurd (true_false e)
flying-line h event answer e = refl

flying-said : (h : History) (answer : Answer) → is_start_or_end answer ≡ false → in_flight (said h answer) ≡ in_flight h
flying-said h (answers.Job job list) e = absurd (true_false e)
flying-said h (answers.Compacting job file list) e = absurd (true_false e)
flying-said h (answers.Paged job file list) e = absurd (true_false e)
flying-said h (answers.Empty job) e = absurd (true_false e)
flying-said h (answers.PageFailed job file) e = absurd (true_false e)
flying-said h (answers.Moved job file list) e = absurd (true_false e)
flying-said h (answers.MoveFailed job file) e = absurd (true_false e)
flying-said h (answers.MoveUnread job file) e = absurd (true_false e)
flying-said h (answers.LostJob job) e = absurd (true_false e)
flying-said h answer e = refl

job_numbers-line : (h : History) (event : Event) (answer : Answer) → is_start answer ≡ false → next_job (heard h event answer) ≡ next_job h
job_numbers-line h event (answers.Job job list) e = absurd (true_false e)
job_numbers-line h event (answers.Compacting job file list) e = absurd (true_false e)
job_numbers-line h event answer e = refl

job_numbers-said : (h : History) (answer : Answer) → is_start answer ≡ false → next_job (said h answer) ≡ next_job h
job_numbers-said h (answers.Job job list) e = absurd (true_false e)
job_numbers-said h (answers.Compacting job file list) e = absurd (true_false e)
job_numbers-said h answer e = refl

pages_on-line : (h : History) (event : Event) (answer : Answer) → turns_off answer ≡ false → paging (heard h event answer) ≡ paging h
pages_on-line h event (answers.PageFailed job file) e = absurd (true_false e)
pages_on-line h event (answers.LostJob job) e = absurd (true_false e)
pages_on-line h event (answers.MoveFailed job file) e = absurd (true_false e)
pages_on-line h event (answers.MoveUnread job file) e = absurd (true_false e)
pages_on-line h event answer e = refl

uses-line : (l : Limits) (h : History) (event : Event) (answer : Answer) → is_reading event answer ≡ false → last_uses l (heard h event answer) ≡ last_uses l h
uses-line l h (events.Step reader) (answers.Given number bytes) e = absurd (true_false e)
uses-line l h event answer e = refl

uses-said : (l : Limits) (h : History) (answer : Answer) → is_done_answer answer ≡ false → last_uses l (said h answer) ≡ last_uses l h
uses-said l h (answers.Done b) e = absurd (true_false e)
uses-said l h answer e = refl

disk_changes-line : (s : Session) (h : History) (event : Event) (answer : Answer) → is_change answer ≡ false → changes s (heard h event answer) ≡ changes s h
disk_changes-line s h event (answers.Stored file piece) e = absurd (true_false e)
disk_changes-line s h event (answers.StoreFailed file) e = absurd (true_false e)
disk_changes-line s h event (answers.Paged job file list) e = absurd (true_false e)
disk_changes-line s h event (answers.PageFailed job file) e = absurd (true_false e)
disk_changes-line s h event (answers.Moved job file list) e = absurd (true_false e)
disk_changes-line s h event (answers.MoveFailed job file) e = absurd (true_false e)
disk_changes-line s h event (answers.Removed file) e = absurd (true_false e)
disk_changes-line s h event (answers.Left file) e = absurd (true_false e)
disk_changes-line s h event answer e = refl

disk_changes-said : (s : Session) (h : History) (answer : Answer) → is_change answer ≡ false → changes s (said h answer) ≡ changes s h
disk_changes-said s h (answers.Stored file piece) e = absurd (true_false e)
disk_changes-said s h (answers.StoreFailed file) e = absurd (true_false e)
disk_changes-said s h (answers.Paged job file list) e = absurd (true_false e)
disk_changes-said s h (answers.PageFailed job file) e = absurd (true_false e)
disk_changes-said s h (answers.Moved job file list) e = absurd (true_false e)
disk_changes-said s h (answers.MoveFailed job file) e = absurd (true_false e)
disk_changes-said s h (answers.Removed file) e = absurd (true_false e)
disk_changes-said s h (answers.Left file) e = absurd (true_false e)
disk_changes-said s h answer e = refl

pub change_laws : ChangeLaws
change_laws = record {
  renderers = record { by_line = renderers-line; by_refusal = λ h event why. refl; by_answer = λ h answer e. refl };
  deaths = λ number. record { by_line = deaths-line number; by_refusal = λ h event why. refl; by_answer = λ h answer e. refl };
  states = λ name. record { by_line = states-line name; by_refusal = λ h event why. refl; by_answer = λ h answer e. refl };
  stamps = λ name. record { by_line = stamps-line name; by_refusal = λ h event why. refl; by_answer = λ h answer e. refl };
  names = record { by_line = names-line; by_refusal = λ h event why. refl; by_answer = λ h answer e. refl };
  contents = λ name stamp. record { by_line = contents-line name stamp; by_refusal = λ h event why. refl; by_answer = λ h answer e. refl };
  blobs = λ page. record { by_line = blobs-line page; by_refusal = λ h event why. refl; by_answer = λ h answer e. refl };
  ends = λ name. record { by_line = ends-line name; by_refusal = λ h event why. refl; by_answer = ends-said name };
  grants = λ name. record { by_line = grants-line name; by_refusal = λ h event why. refl; by_answer = grants-said name };
  segments = λ name. record { by_line = segments-line name; by_refusal = λ h event why. refl; by_answer = λ h answer e. refl };
  handles = λ holder name. record { by_line = handles-line holder name; by_refusal = λ h event why. refl; by_answer = λ h answer e. refl };
  urls = record { by_line = urls-line; by_refusal = λ h event why. refl; by_answer = λ h answer e. refl };
  open_readers = λ page. record { by_line = open_readers-line page; by_refusal = λ h event why. refl; by_answer = λ h answer e. refl };
  page_files = record { by_line = page_files-line; by_refusal = λ h event why. refl; by_answer = page_files-said };
  page_numbers = record { by_line = page_numbers-line; by_refusal = λ h event why. refl; by_answer = page_numbers-said };
  removals = record { by_line = removals-line; by_refusal = λ h event why. refl; by_answer = removals-said };
  flying = record { by_line = flying-line; by_refusal = λ h event why. refl; by_answer = flying-said };
  job_numbers = record { by_line = job_numbers-line; by_refusal = λ h event why. refl; by_answer = job_numbers-said };
  pages_on = record { by_line = pages_on-line; by_refusal = λ h event why. refl; by_answer = λ h answer e. refl };
  disk_changes = λ s. record { by_line = disk_changes-line s; by_refusal = λ h event why. refl; by_answer = disk_changes-said s };
  uses = λ l. record { by_line = uses-line l; by_refusal = λ h event why. refl; by_answer = uses-said l };
}
