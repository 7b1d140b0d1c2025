-- The cells that a step reads, from the view that has the first of them.
use Rattle.std.proofs.Common.{◌≡◌, ℕ, ◌+◌, ◌-◌, ◌≤◌, ◌∙◌, List, drop, length, min, take, Option, ap, refl, arith, subst, sym}
use Rattle.std.proofs.lemmas.List.{length-drop, length-take-le}
use Rattle.item_shares.specs.declared.shares.Share.{Share}
use Rattle.blob_items.specs.declared.view.View.{View}
use Rattle.blob_items.specs.Cells.{cells, total, IsPlaceOf}
use Rattle.blob_items.proofs.CellLemmas.{length_cells}
use Rattle.blob_items.proofs.CutLemmas.{cells_behind}
use Rattle.range_reader.specs.declared.item.ItemFault.{ItemFault}
use Rattle.range_reader.specs.declared.item.ItemFault.TheVariants as faults
use Rattle.range_reader.specs.Places.{Course}
use Rattle.range_reader.specs.Steps.{Asked, AreRead, next_cells}
use Rattle.range_reader.specs.Ends.{StepEnds, Stops, end_of}

pub asked_cells : (reader : Course) (views : List View) (out : List ℕ) (count first skipped : ℕ) → IsPlaceOf views reader.place (first, skipped)
    → count ≡ min (reader.stop - reader.place) (length out)
    → take (length (take count out)) (drop skipped (cells (drop first views))) ≡ next_cells reader (length out) views
asked_cells reader views out count first skipped is count_is =
    let long : length (take count out) ≡ count = length-take-le count out (omega (arith, count_is)) in
    let many : length (take count out) ≡ min (length out) (reader.stop - reader.place) = omega (arith, long, count_is) in
    ap (λ (n : ℕ). take n (drop skipped (cells (drop first views)))) many
    ∙ ap (take (min (length out) (reader.stop - reader.place))) (sym (cells_behind views reader.place first skipped is.before))

pub asked_count : (reader : Course) (views : List View) (room : ℕ) → reader.stop ≤ total views
    → length (next_cells reader room views) ≡ min room (reader.stop - reader.place)
asked_count reader views room fits =
    length-take-le (min room (reader.stop - reader.place)) (drop reader.place (cells views)) (omega (
      arith,
      fits,
      length-drop reader.place
          (cells views),
      length_cells views,
    ))

-- a read of the views behind the first is a read of the cells asked for
pub read_asked : (shares : List (Option Share)) (old new : Asked) (reader : Course) (views behind : List View) (out given later : List ℕ)
    (count first skipped : ℕ)
    → behind ≡ views → IsPlaceOf views reader.place (first, skipped) → count ≡ min (reader.stop - reader.place) (length out) → later ≡ given
    → AreRead shares old new (take (length (take count out)) (drop skipped (cells (drop first behind)))) given
    → AreRead shares old new (next_cells reader (length out) views) later
read_asked shares old new reader views behind out given later count first skipped same is count_is bytes read =
    let cells_are : take (length (take count out)) (drop skipped (cells (drop first behind))) ≡ next_cells reader (length out) views =
    ap (λ (all : List View). take (length (take count out)) (drop skipped (cells (drop first all)))) same
    ∙ asked_cells reader views out count first skipped is count_is in
    subst (λ (read : List (ℕ × ℕ)). AreRead shares old new read later) cells_are (subst (AreRead shares old new (take (length (take count out))
    (drop skipped (cells (drop first behind))))) (sym bytes) read)

-- and so is one that stops
pub stops_asked : (shares : List (Option Share)) (old new : Asked) (reader : Course) (views behind : List View) (out : List ℕ)
    (count first skipped view : ℕ) (fault : ItemFault)
    → behind ≡ views → IsPlaceOf views reader.place (first, skipped) → count ≡ min (reader.stop - reader.place) (length out)
    → Stops shares behind old new (total (take first behind) + skipped) (take (length (take count out)) (drop skipped (cells (drop first behind)))) view fault
    → Stops shares views old new reader.place (next_cells reader (length out) views) view fault
stops_asked shares old new reader views behind out count first skipped view fault same is count_is stops =
    let here = subst (λ (all : List View). Stops shares all old new (total (take first all) + skipped) (take (length (take count out)) (drop skipped
    (cells (drop first all)))) view fault) same stops in
    let at = subst (λ (off : ℕ). Stops shares views old new off (take (length (take count out)) (drop skipped (cells
    (drop first views)))) view fault) is.before here in
    subst (λ (read : List (ℕ × ℕ)). Stops shares views old new reader.place read view fault) (asked_cells reader views out count first skipped is count_is) at

-- a step that stops ends so, and the reader is where it was
pub stops_end : (shares : List (Option Share)) (views : List View) (room : ℕ) (reader : Course) (old new : Asked) (out : List ℕ) (view : ℕ) (fault : ItemFault)
    → Stops shares views old new reader.place (next_cells reader room views) view fault
    → StepEnds shares views room reader reader old new out (end_of view fault)
stops_end shares views room reader old new out view faults.Changed stops = (refl, stops)
stops_end shares views room reader old new out view (faults.Page page) stops = (refl, view, stops)
stops_end shares views room reader old new out view (faults.Handle slot) stops = (refl, view, stops)
