-- A byte that is told of a place in an item is the byte that the history says of its cell. File API: a read gives the bytes of the parts named at construction.
use Rattle.std.specs.Prelude.{ℕ, ◌≡◌, ◌==◌, Bool, false, true, List, [], ◌∷◌, length, Option, None, Some, IfSome, if◌then◌else◌}
use Rattle.std.specs.Option.{option_or}
use Rattle.std.specs.List.{AllByRecursion}
use Rattle.data_handles.specs.Table.{Table as HandleTable}
use Rattle.item_shares.specs.Shares.{item_at}
use Rattle.item_shares.specs.declared.item.Item.{Item}
use Rattle.page_disk.specs.declared.change.Change.{Change}
use Rattle.range_reader.specs.Bytes.{item_byte, item_fails, origins}
use Rattle.range_reader.specs.Places.{Lies}
use Rattle.blob_model.specs.Builds.{builds, sent}
use Rattle.blob_model.specs.Changes.{Change as DiskChange, put, changes, list_bytes, numbered_bytes}
use Rattle.blob_model.specs.History.{History, heard, said}
use Rattle.session_script.specs.declared.event.Event.{Event}
use Rattle.answer_text.specs.declared.answer.Answer.{Answer}
use Rattle.blob_model.specs.Order.{AreOrdered}
use Rattle.blob_model.specs.Pages.{Page, pages}
use Rattle.blob_model.specs.Pieces.{length_in, pieces}
use Rattle.blob_model.specs.Session.{Session, page_limit}
use Rattle.blob_model.specs.Value.{agrees, value}
use Rattle.store_laws.specs.BuildLaws.{IsUnpaged}
use Rattle.store_laws.specs.Cells.{item_cell}
use Rattle.store_laws.specs.Stands.{Between, Parts}

-- of items that are in no page file: one of a file is recorded as it was named, one of a data handle has its object
abbrev pub TellsCells : Type 0
TellsCells =
    (s : Session) (h : History) (stands : ℕ → Bool) (parts : Parts) (told : Option (List Change)) (table : HandleTable) → Between s h stands parts told table
    → (slot place byte : ℕ) (item : Item) → item_at parts.shares slot ≡ Some item → IsUnpaged item → Lies (origins parts.files told table) place 1 item
    → item_fails parts.files place item ≡ false → IfSome (item_byte (origins parts.files told table) place item) (λ (known : ℕ). byte ≡ known)
    → agrees s h (item_cell (pieces (page_limit s) h) item place) byte ≡ true

-- the bytes that a change puts into the page file, and those last put there
abbrev pub bytes_by : ℕ → DiskChange → Option (List ℕ)
bytes_by page (put number bytes) = if page == number then Some bytes else None
bytes_by page change = None

abbrev pub bytes_in : ℕ → List DiskChange → Option (List ℕ)
bytes_in page [] = None
bytes_in page (change ∷ more) = option_or (bytes_in page more) (bytes_by page change)

-- each piece of a page file is whole, and the bytes last put there are those of its pieces, one after the other
pub record IsWritten (s : Session) (h : History) (file : Page) : Type 0 where
  pub whole : AllByRecursion (λ (number : ℕ). length (numbered_bytes s h number) ≡ length_in (pieces (page_limit s) h) number) file.pieces
  pub last : bytes_in file.number (changes s h) ≡ Some (list_bytes s h file.pieces)

abbrev pub AreWritten : Session → History → Type 0
AreWritten s h = AllByRecursion (IsWritten s h) (pages h)

-- of all items: one in a page file has the bytes of its piece at its offset
abbrev pub TellsAllCells : Type 0
TellsAllCells =
    (s : Session) (h : History) (stands : ℕ → Bool) (parts : Parts) (told : Option (List Change)) (table : HandleTable) → Between s h stands parts told table
    → AreOrdered [] (builds (page_limit s) h) → AreWritten s h
    → (slot place byte : ℕ) (item : Item) → item_at parts.shares slot ≡ Some item → Lies (origins parts.files told table) place 1 item
    → item_fails parts.files place item ≡ false → IfSome (item_byte (origins parts.files told table) place item) (λ (known : ℕ). byte ≡ known)
    → agrees s h (item_cell (pieces (page_limit s) h) item place) byte ≡ true

-- what an own byte of a blob was sent as stays so, whatever is heard or said
pub record ValuesStay : Type 0 where
  pub by_line : (s : Session) (h : History) (event : Event) (answer : Answer) (blob index byte : ℕ) → value s h (sent blob index) ≡ Some byte
      → value s (heard h event answer) (sent blob index) ≡ Some byte
  pub by_answer : (s : Session) (h : History) (answer : Answer) (blob index byte : ℕ) → value s h (sent blob index) ≡ Some byte
      → value s (said h answer) (sent blob index) ≡ Some byte
