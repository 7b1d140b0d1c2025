-- A step that reads bytes, and one that closes its reader. Own.
use Rattle.std.specs.Prelude.{ℕ, ◌≡◌, ◌-◌, ◌<◌, List, min, slice_get, Option, Some, option_and_then, IsSomeAnd}
use Rattle.blob_words.specs.declared.status.Status.TheVariants as statuses
use Rattle.item_shares.specs.Shares.{item_at}
use Rattle.item_shares.specs.declared.item.Item.{Item}
use Rattle.item_shares.specs.declared.item.Item.TheVariants.{Memory, Paged, Reserved, File, Range}
use Rattle.item_shares.specs.declared.shares.Share.{Share}
use Rattle.blob_items.specs.declared.view.View.{View}
use Rattle.blob_entries.specs.Book.{entry_of}
use Rattle.blob_entries.specs.declared.entry.Entry.{Entry}
use Rattle.range_reader.specs.declared.step_end.StepEnd.{StepEnd}
use Rattle.range_reader.specs.declared.step_end.StepEnd.TheVariants.{Bytes, End, FileChanged, PageFault, HandleFault}
use Rattle.blob_store.specs.Readers.{reader_at}
use Rattle.blob_store.specs.declared.parts.Parts.{Parts}
use Rattle.blob_store.specs.declared.readers.OpenReader.{OpenReader}

-- the reader of this number is open at this place of this blob, which is done, and as many bytes as this are asked for as a step reads at most
pub record IsReading (parts : Parts) (number blob place room : ℕ) : Type 0 where
  pub reader : OpenReader
  pub entry : Entry
  pub there : reader_at number parts.readers ≡ Some reader
  pub at : entry_of parts.registry blob ≡ Some entry
  pub done : entry.status ≡ statuses.Done
  pub blob_is : reader.blob ≡ blob
  pub place_is : reader.course.place ≡ place
  pub room_is : room ≡ min (reader.course.stop - place) parts.limits.chunk
  pub some : 0 < room

-- an item of a file
abbrev pub IsFile : Item → Type 0
IsFile (Memory piece bytes) = ⊥
IsFile (Paged piece page off len) = ⊥
IsFile (Reserved piece len) = ⊥
IsFile (File name stamp off len) = Unit {0}
IsFile (Range slot off len) = ⊥

-- a step that read no bytes; where a file changed, the view is of a file
abbrev pub IsClosing : List (Option Share) → List View → StepEnd → Type 0
IsClosing shares views (Bytes count) = ⊥
IsClosing shares views End = Unit {0}
IsClosing shares views (FileChanged place) =
    IsSomeAnd (option_and_then (λ (view : View). item_at shares view.slot) (slice_get views place)) IsFile
IsClosing shares views (PageFault page) = Unit {0}
IsClosing shares views (HandleFault slot) = Unit {0}
