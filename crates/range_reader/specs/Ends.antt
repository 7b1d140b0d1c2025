-- The answers of a step, each with what was read, what failed and where the reader is then. Own.
use Rattle.std.specs.Prelude.{ℕ, ◌≡◌, ◌+◌, ◌<◌, true, List, length, take, Option, IsSomeAnd}
use Rattle.item_shares.specs.declared.shares.Share.{Share}
use Rattle.item_shares.specs.Shares.{item_at}
use Rattle.blob_items.specs.declared.view.View.{View}
use Rattle.blob_items.specs.Cells.{IsPlaceOf}
use Rattle.range_reader.specs.declared.step_end.StepEnd.{StepEnd}
use Rattle.range_reader.specs.declared.step_end.StepEnd.TheVariants.{Bytes, End, FileChanged, PageFault, HandleFault}
use Rattle.range_reader.specs.declared.item.ItemFault.{ItemFault}
use Rattle.range_reader.specs.declared.item.ItemFault.TheVariants as faults
use Rattle.range_reader.specs.Bytes.{cell_fails}
use Rattle.range_reader.specs.Places.{Course}
use Rattle.range_reader.specs.Steps.{Asked, AreRead, AreUncounted, DiskFailed, HandleFailed, IsInPage, IsOfHandle, StopsAt, next_cells}

-- the cell that keeps cells from being read, and why: its file changed, the disk failed at its page, or its handle failed
abbrev pub Fails : List (Option Share) → Asked → Asked → ℕ × ℕ → ItemFault → Type 0
Fails shares old new cell faults.Changed = (cell_fails old.from.files shares cell ≡ true) × AreUncounted old new
Fails shares old new cell (faults.Page page) = IsSomeAnd (item_at shares cell.0) (IsInPage page) × DiskFailed old new
Fails shares old new cell (faults.Handle slot) = IsSomeAnd (item_at shares cell.0) (IsOfHandle slot) × HandleFailed slot old new

-- the first of the cells that can't be read, in this view of the list, whose first cell asked for stands at a place
pub record Stops (shares : List (Option Share)) (views : List View) (old new : Asked) (off : ℕ) (read : List (ℕ × ℕ)) (view : ℕ)
    (fault : ItemFault) : Type 0 where
  pub front : List (ℕ × ℕ)
  pub cell : ℕ × ℕ
  pub skipped : ℕ
  pub stops : StopsAt shares old read front cell
  pub place : IsPlaceOf views (off + length front) (view, skipped)
  pub fails : Fails shares old new cell fault

-- the answer of a step that stops in a view
abbrev pub end_of : ℕ → ItemFault → StepEnd
end_of view faults.Changed = FileChanged view
end_of view (faults.Page page) = PageFault page
end_of view (faults.Handle slot) = HandleFault slot

-- what an answer says; a failure leaves the reader where it was
abbrev pub StepEnds : List (Option Share) → List View → ℕ → Course → Course → Asked → Asked → List ℕ → StepEnd → Type 0
StepEnds shares views room reader later old new out (Bytes count) =
    (count ≡ length (next_cells reader room views)) × (0 < count) × (later ≡ record reader { place = reader.place + count })
    × AreRead shares old new (next_cells reader room views) (take count out)
StepEnds shares views room reader later old new out End = (reader.place ≡ reader.stop) × (later ≡ reader) × (new ≡ old)
StepEnds shares views room reader later old new out (FileChanged view) =
    (later ≡ reader) × Stops shares views old new reader.place (next_cells reader room views) view faults.Changed
StepEnds shares views room reader later old new out (PageFault page) =
    (later ≡ reader) × (view : ℕ) × Stops shares views old new reader.place (next_cells reader room views) view (faults.Page page)
StepEnds shares views room reader later old new out (HandleFault slot) =
    (later ≡ reader) × (view : ℕ) × Stops shares views old new reader.place (next_cells reader room views) view (faults.Handle slot)
