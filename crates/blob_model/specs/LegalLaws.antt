-- What holds of all legal transcripts, and of all histories that are settled. Own.
use Rattle.std.specs.Prelude.{◌≡◌, ◌≤◌, ◌<◌, ℕ, ◌+◌, ◌-◌, ◌*◌, ◌&&◌, Bool, true, false, not, List, [], ◌∷◌, ◌++◌, map, sum_by, None, is_some}
use Rattle.std.specs.List.{AllByRecursion, list_all}
use Rattle.answer_text.specs.declared.answer.Answer.{Answer}
use Rattle.answer_text.specs.declared.group.Group.{Group}
use Rattle.session_script.specs.declared.event.Event.{Event}
use Rattle.blob_model.specs.Session.{Slot, Outside, Session, page_limit}
use Rattle.blob_model.specs.History.{History, history_from}
use Rattle.blob_model.specs.Builds.{builds}
use Rattle.blob_model.specs.Pieces.{Piece, pieces}
use Rattle.blob_model.specs.Reached.{reached, is_granted_piece}
use Rattle.blob_model.specs.Pages.{Page}
use Rattle.blob_model.specs.Jobs.{paging, in_flight}
use Rattle.blob_model.specs.Tally.{in_page_of, reserved_of, bytes_of, is_thin, files, disk}
use Rattle.blob_model.specs.Settle.{IsSettled}
use Rattle.blob_model.specs.Faults.{is_disk_fault, is_handle_fault}
use Rattle.blob_model.specs.Legal.{IsLegalGroup, IsLegalFrom, IsLegal}

-- whatever a legal transcript begins with is legal
abbrev pub FrontsAreLegal : Type 0
FrontsAreLegal = (outside : Outside) (front more : List Group) → IsLegal outside (front ++ more) → IsLegal outside front

-- one more legal group makes a longer legal transcript
abbrev pub MoreIsLegal : Type 0
MoreIsLegal =
    (s : Session) (h : History) (groups : List Group) (group : Group) → IsLegalFrom s h groups → IsLegalGroup s (history_from h groups) group
    → IsLegalFrom s h (groups ++ group ∷ [])

-- the disk tells its changes, and each data handle tells its bytes
abbrev pub tells : Slot → Bool
tells slot = is_some slot.bytes

abbrev pub AllTold : Outside → Type 0
AllTold outside = (outside.disk_tells ≡ true) × (list_all tells outside.slots ≡ true)

-- no answer of the groups tells a fault
abbrev pub is_good : Answer → Bool
is_good answer = not (is_disk_fault answer) && not (is_handle_fault answer)

abbrev pub are_good : List Group → Bool
are_good groups = list_all (λ (group : Group). list_all is_good group.answers) groups

abbrev pub events_of : List Group → List Event
events_of groups = map (λ (group : Group). group.event) groups

-- where all is told, the legal transcript of a list of events that has no fault answer is single
abbrev pub OneTranscript : Type 0
OneTranscript =
    (outside : Outside) (groups others : List Group) → AllTold outside → IsLegal outside groups → IsLegal outside others → events_of groups ≡ events_of others →
    are_good groups ≡ true → are_good others ≡ true → groups ≡ others

-- each reached piece is of a blob that was granted
abbrev pub ReachedAreGranted : Type 0
ReachedAreGranted = (page : ℕ) (h : History) → AllByRecursion (λ (piece : Piece). is_granted_piece h (builds page h) piece ≡ true) (reached page h)

-- the reached pieces in a page file, in bytes
abbrev pub reached_bytes : Session → History → Page → ℕ
reached_bytes s h page = bytes_of (in_page_of h (builds (page_limit s) h) page (reached (page_limit s) h))

abbrev pub is_thin_now : Session → History → Page → Bool
is_thin_now s h page = is_thin h (builds (page_limit s) h) (pieces (page_limit s) h) (reached (page_limit s) h) page

-- a thin page file stays only where the disk has no room for its reached pieces once more
abbrev pub ThinStaysForRoom : Type 0
ThinStaysForRoom =
    (s : Session) (h : History) → IsSettled s h → paging h ≡ true → in_flight h ≡ None →
    AllByRecursion (λ (page : Page). is_thin_now s h page ≡ true → s.limits.disk - disk (page_limit s) h < reached_bytes s h page) (files (page_limit s) h)

-- where no job is in flight and no thin page file stays, the disk is charged at most twice the reached pieces in page files, and the reserved ones
abbrev pub DiskIsAtMostTwice : Type 0
DiskIsAtMostTwice =
    (s : Session) (h : History) → in_flight h ≡ None → AllByRecursion (λ (page : Page). is_thin_now s h page ≡ false) (files (page_limit s) h) →
    disk (page_limit s) h ≤ 2 * sum_by (reached_bytes s h) (files (page_limit s) h) + bytes_of
    (reserved_of h (builds (page_limit s) h) (reached (page_limit s) h))
