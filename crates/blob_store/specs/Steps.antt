-- A step of an open reader, and what a store asks of the disk and the data handles that it reads. Own.
use Rattle.std.specs.Prelude.{ℕ, ◌≡◌, ◌+◌, ◌≤◌, ◌==◌, List, length, Option, IfSome, IsSomeAnd, if◌then◌else◌}
use Rattle.std.specs.Option.{option_map}
use Rattle.data_handles.specs.Handles.{Handle}
use Rattle.data_handles.specs.Table.{object_at, Table}
use Rattle.item_shares.specs.Shares.{item_at}
use Rattle.item_shares.specs.declared.item.Item.{Item}
use Rattle.item_shares.specs.declared.item.Item.TheVariants.{Memory, Paged, Reserved, File, Range}
use Rattle.item_shares.specs.declared.shares.Share.{Share}
use Rattle.page_disk.specs.Changes.{HasRange}
use Rattle.page_disk.specs.declared.change.Change.{Change}
use Rattle.blob_items.specs.declared.view.View.{View}
use Rattle.range_reader.specs.Ends.{StepEnds}
use Rattle.range_reader.specs.Places.{Course}
use Rattle.range_reader.specs.Steps.{Asked}
use Rattle.range_reader.specs.declared.step_end.StepEnd.{StepEnd}
use Rattle.blob_store.specs.Readers.{reader_at, readers_of}
use Rattle.blob_store.specs.declared.readers.OpenReader.{OpenReader}

-- ---- what can be asked for

-- where the disk tells, a page file has the bytes of each item in it; and the object of each item of a data handle is there, and as long
abbrev pub CanBeRead : Option (List Change) → Table → Item → Type 0
CanBeRead told table (Memory piece bytes) = Unit {0}
CanBeRead told table (Paged piece page off len) = IfSome told (HasRange page.0 off len)
CanBeRead told table (Reserved piece len) = Unit {0}
CanBeRead told table (File name stamp off len) = Unit {0}
CanBeRead told table (Range slot off len) = IsSomeAnd (object_at table slot) (λ (handle : Handle). off + len ≤ handle.size)

unfoldable pub AreReadable : List (Option Share) → Option (List Change) → Table → Type 0
AreReadable shares told table = (slot : ℕ) → IfSome (item_at shares slot) (CanBeRead told table)

-- ---- the reader that steps

abbrev pub with_course : Course → OpenReader → OpenReader
with_course course reader = record reader { course = course }

-- the reader of this number has this course, and every other number has what it had
pub record Moves (number : ℕ) (course : Course) (old new : List (ℕ × OpenReader)) : Type 0 where
  pub each : (other : ℕ) → reader_at other new ≡ (if number == other then option_map (with_course course) (reader_at other old) else reader_at other old)
  pub many : length new ≡ length old
  pub reading : (name : ℕ) → readers_of name new ≡ readers_of name old

-- a step of the reader of this number
pub record IsStepped (number : ℕ) (reader : OpenReader) (shares : List (Option Share)) (views : List View) (room : ℕ) (old new : Asked) (out : List ℕ)
    (end : StepEnd) (before later : List (ℕ × OpenReader)) : Type 0 where
  pub course : Course
  pub ends : StepEnds shares views room reader.course course old new out end
  pub moves : Moves number course before later
  pub stays : course ≡ reader.course → later ≡ before
