-- What a step of a reader gives, and what it leaves. Own.
use Rattle.std.specs.Prelude.{ℕ, ◌≡◌, ◌+◌, ◌-◌, ◌==◌, Bool, false, true, List, [], ◌∷◌, flat_map, fold, length, min, take, slice_get, Option, None, Some, option_and_then, IfSome, if◌then◌else◌}
use Rattle.std.specs.Option.{option_map}
use Rattle.std.specs.List.{AllByRecursion, list_any}
use Rattle.blob_words.specs.declared.number.ReaderId.{ReaderId}
use Rattle.blob_words.specs.declared.status.Status.{Status}
use Rattle.blob_words.specs.declared.status.Status.TheVariants as statuses
use Rattle.session_script.specs.declared.event.Event.TheVariants as events
use Rattle.answer_text.specs.declared.answer.Answer.{Answer}
use Rattle.answer_text.specs.declared.answer.Answer.TheVariants as answers
use Rattle.answer_text.specs.declared.group.Group.{Group}
use Rattle.blob_entries.specs.Book.{changed, entry_of}
use Rattle.blob_entries.specs.Changes.{held_less}
use Rattle.blob_entries.specs.Statuses.{is_pending}
use Rattle.blob_entries.specs.declared.entry.Entry.{Entry}
use Rattle.blob_items.specs.declared.view.View.{View}
use Rattle.data_handles.specs.Table.{counted_at, Table as HandleTable}
use Rattle.item_shares.specs.Shares.{item_at}
use Rattle.item_shares.specs.declared.item.Item.{Item}
use Rattle.item_shares.specs.declared.item.Item.TheVariants.{Memory, Paged, Reserved, File, Range}
use Rattle.item_shares.specs.declared.shares.Share.{Share}
use Rattle.page_disk.specs.declared.change.Change.{Change}
use Rattle.range_reader.specs.Bytes.{origins}
use Rattle.range_reader.specs.Ends.{StepEnds}
use Rattle.range_reader.specs.Places.{Course, ViewLies}
use Rattle.range_reader.specs.Steps.{asked, next_cells, Asked}
use Rattle.range_reader.specs.declared.step_end.StepEnd.{StepEnd}
use Rattle.range_reader.specs.declared.step_end.StepEnd.TheVariants.{Bytes, End, FileChanged, PageFault, HandleFault}
use Rattle.blob_model.specs.Builds.{builds}
use Rattle.blob_model.specs.History.{History, heard, history_from, start}
use Rattle.blob_model.specs.Legal.{IsLegalFrom}
use Rattle.blob_model.specs.Order.{AreOrdered}
use Rattle.blob_model.specs.Own.{IsAccepted}
use Rattle.blob_model.specs.Pieces.{pieces, Piece}
use Rattle.blob_model.specs.Readers.{OpenReader}
use Rattle.blob_model.specs.Session.{Session, page_limit}
use Rattle.blob_model.specs.Standing.{ended, is_done, is_done_status}
use Rattle.blob_model.specs.Victims.{last_uses}
use Rattle.recent_items.specs.Recent.{touched}
use Rattle.store_laws.specs.Apart.{AreReadersApart}
use Rattle.store_laws.specs.LineLaws.{counted, IsKeptBy}
use Rattle.store_laws.specs.Stands.{Between, Parts}
use Rattle.store_laws.specs.TableLaws.{open_at, ReaderGoes, WhereStanding}
use Rattle.store_laws.specs.TellLaws.{AreWritten}

-- in a legal transcript each page file was written with the bytes of its pieces, one after the other
abbrev pub PagesAreWritten : Type 0
PagesAreWritten = (s : Session) (groups : List Group) → IsLegalFrom s start groups → AreWritten s (history_from start groups)

-- ---- what a step tells

-- the file of an item, and of the view at a place
abbrev pub file_name : Item → List ℕ
file_name (Memory piece bytes) = []
file_name (Paged piece page off len) = []
file_name (Reserved piece len) = []
file_name (File name stamp off len) = name
file_name (Range slot off len) = []

abbrev pub name_by : Option Item → List ℕ
name_by None = []
name_by (Some item) = file_name item

abbrev pub viewed_file : List (Option Share) → List View → ℕ → List ℕ
viewed_file shares views place = name_by (option_and_then (λ (view : View). item_at shares view.slot) (slice_get views place))

-- the answer to a step that ends so
abbrev pub step_answer : ReaderId → List (Option Share) → List View → List ℕ → StepEnd → Answer
step_answer reader shares views out (Bytes count) = answers.Given reader (take count out)
step_answer reader shares views out End = answers.Ended reader statuses.Done
step_answer reader shares views out (FileChanged view) = answers.FileChanged reader (viewed_file shares views view)
step_answer reader shares views out (PageFault page) = answers.PageFault reader page
step_answer reader shares views out (HandleFault slot) = answers.HandleFailed reader slot

-- on a blob that is done a step with room for what the history reads gives the answer that the history allows
abbrev pub StepTells : Type 0
StepTells =
    (s : Session) (h : History) (stands : ℕ → Bool) (parts : Parts) (told : Option (List Change)) (table : HandleTable) → Between s h stands parts told table
    → AreOrdered [] (builds (page_limit s) h) → AreWritten s h → (reader : ReaderId) (open_reader : OpenReader) (entry : Entry)
    → open_at reader.0 parts.readers ≡ Some open_reader → entry_of parts.book open_reader.blob ≡ Some entry → entry.status ≡ statuses.Done
    → AllByRecursion (ViewLies (origins parts.files told table) parts.shares) entry.views → (size room faults meter : ℕ) (later : Course) (new : Asked)
    (out : List ℕ) (end : StepEnd)
    → min room (open_reader.end - open_reader.place) ≡ min (open_reader.end - open_reader.place) s.limits.chunk
    → StepEnds parts.shares entry.views room (record { size = size; place = open_reader.place; stop = open_reader.end }) later
    (asked parts.files told table faults meter) new out end
    → IsAccepted s h (events.Step reader) (step_answer reader parts.shares entry.views out end ∷ [])

-- on one that is unfinished it waits, and on a broken one the reader is at its end
abbrev pub unread_answer : ReaderId → Status → Answer
unread_answer reader status = if is_pending status then answers.Wait reader else answers.Ended reader status

abbrev pub StepUnread : Type 0
StepUnread =
    (s : Session) (h : History) (stands : ℕ → Bool) (parts : Parts) (told : Option (List Change)) (table : HandleTable) → Between s h stands parts told table
    → ((name : ℕ) → IfSome (ended h name) (λ (status : Status). is_pending status ≡ false)) → (reader : ReaderId) (open_reader : OpenReader) (entry : Entry)
    → open_at reader.0 parts.readers ≡ Some open_reader → entry_of parts.book open_reader.blob ≡ Some entry → is_done_status entry.status ≡ false
    → IsAccepted s h (events.Step reader) (unread_answer reader entry.status ∷ [])

-- ---- what a step leaves

-- an answer that closes the reader
abbrev pub ends_reader : Answer → Bool
ends_reader (answers.Ended reader status) = true
ends_reader (answers.FileChanged reader name) = true
ends_reader (answers.PageFault reader file) = true
ends_reader (answers.HandleFailed reader slot) = true
ends_reader answer = false

-- the reader is closed, and its blob has one root fewer
abbrev pub StepCloses : Type 0
StepCloses = WhereStanding (λ s h stands parts told table.
    AreReadersApart (page_limit s) h → (reader : ReaderId) (answer : Answer) → ends_reader answer ≡ true → (name : ℕ) (readers : List (ℕ × OpenReader))
    → ReaderGoes reader.0 parts.readers readers
    → Between s (heard h (events.Step reader) answer) stands
    (counted (record parts { book = changed parts.book name held_less; readers = readers })) told table)

-- a count of a data handle that rose is nothing that the history says
abbrev pub CountsAreBeside : Type 0
CountsAreBeside =
    (s : Session) (h : History) (stands : ℕ → Bool) (parts : Parts) (told : Option (List Change)) (table : HandleTable) (slot faults : ℕ)
    → Between s h stands parts told table → Between s h stands parts told (counted_at table slot faults)

-- ---- a step that gives bytes

-- the reader of this number goes on by so many bytes
abbrev pub moved_on : ℕ → OpenReader → OpenReader
moved_on count reader = record reader { place = reader.place + count }

pub record ReaderMoves (number count : ℕ) (old new : List (ℕ × OpenReader)) : Type 0 where
  pub each : (other : ℕ) → open_at other new ≡ (if number == other then option_map (moved_on count) (open_at other old) else open_at other old)
  pub many : length new ≡ length old

-- the pieces of the cells that are in memory, cell by cell
abbrev pub memory_number : Option Item → List ℕ
memory_number (Some (Memory piece bytes)) = piece.0 ∷ []
memory_number held = []

abbrev pub read_numbers : List (Option Share) → List (ℕ × ℕ) → List ℕ
read_numbers shares cells = flat_map (λ (cell : ℕ × ℕ). memory_number (item_at shares cell.0)) cells

-- each of them goes to the end of the order of use, where it is there
abbrev pub touched_all : List (ℕ × ℕ) → List ℕ → List (ℕ × ℕ)
touched_all order numbers = fold (λ (before : List (ℕ × ℕ)) (number : ℕ). touched number before) order numbers

-- each piece of a blob that is done was used
abbrev pub AreUsed : Session → History → Type 0
AreUsed s h =
    AllByRecursion (λ (piece : Piece). is_done h piece.blob ≡ true → list_any (λ (each : ℕ). each == piece.number) (last_uses s.limits h) ≡ true)
    (pieces (page_limit s) h)

abbrev pub DoneAreUsed : Type 0
DoneAreUsed = (s : Session) (groups : List Group) → IsLegalFrom s start groups → AreUsed s (history_from start groups)

-- the reader goes on, and the pieces read are the last ones used
abbrev pub StepGives : Type 0
StepGives = WhereStanding (λ s h stands parts told table.
    AreOrdered [] (builds (page_limit s) h) → AreUsed s h → (reader : ReaderId) (open_reader : OpenReader) (entry : Entry)
    → open_at reader.0 parts.readers ≡ Some open_reader → entry_of parts.book open_reader.blob ≡ Some entry → entry.status ≡ statuses.Done
    → AllByRecursion (ViewLies (origins parts.files told table) parts.shares) entry.views → (size room : ℕ) (bytes : List ℕ)
    (readers : List (ℕ × OpenReader))
    → min room (open_reader.end - open_reader.place) ≡ min (open_reader.end - open_reader.place) s.limits.chunk
    → ReaderMoves reader.0 (length bytes) parts.readers readers
    → Between s (heard h (events.Step reader) (answers.Given reader bytes)) stands
    (counted (record parts {
      recent = touched_all parts.recent (read_numbers parts.shares
          (next_cells (record { size = size; place = open_reader.place; stop = open_reader.end }) room entry.views));
      readers = readers;
    })) told table)

pub record StepLeaves : Type 0 where
  pub waits : (reader : ReaderId) → IsKeptBy (λ (h : History). heard h (events.Step reader) (answers.Wait reader))
  pub closes : StepCloses
  pub counts : CountsAreBeside
  pub gives : StepGives
