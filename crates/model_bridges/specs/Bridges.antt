-- The types of the store's parts, each read as that of the model. Own.
use Rattle.std.specs.Prelude.{◌≡◌, ℕ, List, [], ◌∷◌, map, Option, None, Some}
use Rattle.std.specs.Option.{option_map}
use Rattle.blob_words.specs.declared.number.PageNo.{PageNo}
use Rattle.file_table.specs.declared.file_note.FileNote.{FileNote}
use Rattle.page_disk.specs.declared.change.Change.{Change}
use Rattle.page_disk.specs.declared.change.Change.TheVariants as changes
use Rattle.data_handles.specs.Handles.{Handle}
use Rattle.page_files.specs.declared.held.Held.{Held}
use Rattle.page_files.specs.declared.job.Job.{Job}
use Rattle.page_files.specs.declared.page.Page.{Page}
use Rattle.page_files.specs.declared.page.Page.TheVariants as page_files
use Rattle.blob_model.specs.Session.{Slot}
use Rattle.blob_model.specs.Recorded.{FileState}
use Rattle.blob_model.specs.Changes.{Change as DiskChange, put, torn, remove, leave}
use Rattle.blob_model.specs.Jobs.{Job as ModelJob}
use Rattle.blob_model.specs.Pages.{Page as ModelPage}

-- a change on the disk
abbrev pub change_as : Change → DiskChange
change_as (changes.Put page bytes) = put page.0 bytes
change_as (changes.Torn page) = torn page.0
change_as (changes.Remove page) = remove page.0
change_as (changes.Left page) = leave page.0

-- an object is the one of the slot: it has its size, and tells its bytes or nothing as it does
pub record IsOfSlot (handle : Handle) (slot : Slot) : Type 0 where
  pub size : handle.size ≡ slot.size
  pub bytes : handle.told ≡ slot.bytes

-- what is known of a file name: its state, while it is recorded
abbrev pub state_as : FileNote → Option FileState
state_as note = option_map (λ (bytes : List ℕ). record { stamp = note.last; bytes = bytes }) note.bytes

-- the numbers of held pieces
abbrev pub held_numbers : List Held → List ℕ
held_numbers list = map (λ (held : Held). held.piece.0) list

-- a job, with the pieces that it still has
abbrev pub job_as : Job → ModelJob
job_as job = record { number = job.number.0; source = option_map (λ (page : PageNo). page.0) job.source; pieces = held_numbers job.pieces }

-- the reached pieces of a page file of this number; none where the write failed or the removal was asked for
abbrev pub page_as : ℕ → Page → Option ModelPage
page_as number (page_files.Whole size pieces) = Some (record { number = number; pieces = held_numbers pieces })
page_as number page = None
