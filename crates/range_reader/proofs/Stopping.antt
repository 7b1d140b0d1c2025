-- The cell at which a read of views stops.
use Rattle.std.proofs.Common.{◌≡◌, ℕ, suc, ◌+◌, ◌-◌, ◌<◌, ◌∙◌, true, false, List, [], ◌∷◌, ◌++◌, drop, get_or, length, min, take, Option, Some, refl, sym, ap, arith, subst, append_assoc, length-append}
use Rattle.std.specs.Prelude.{IsSomeAnd}
use Rattle.std.specs.Option.{option_map_or}
use Rattle.std.proofs.lemmas.List.{drop_more}
use Rattle.blob_source.specs.Faults.{Rose}
use Rattle.data_handles.specs.Table.{Table, counted_at, faults_at}
use Rattle.item_shares.specs.declared.item.Item.{Item}
use Rattle.item_shares.specs.declared.shares.Share.{Share}
use Rattle.item_shares.specs.Shares.{item_at}
use Rattle.blob_items.specs.declared.view.View.{View}
use Rattle.blob_items.specs.Cells.{cells, IsPlaceOf}
use Rattle.blob_items.proofs.CellLemmas.{step}
use Rattle.blob_items.proofs.StartLemmas.{more_total}
use Rattle.range_reader.specs.declared.item.ItemFault.{ItemFault}
use Rattle.range_reader.specs.declared.item.ItemFault.TheVariants as faults
use Rattle.range_reader.specs.Bytes.{Origins, cell_fails, item_fails}
use Rattle.range_reader.specs.Steps.{Asked, AreUncounted, DiskFailed, HandleFailed, IsInPage, IsOfHandle}
use Rattle.range_reader.specs.Parts.{ItemFails}
use Rattle.range_reader.specs.Ends.{Fails, Stops}
use Rattle.range_reader.proofs.Parts.{cells_of, last_passes, length_cells_of, splits, Splits}
use Rattle.range_reader.proofs.Reading.{none_both, SoFar}

-- what failed behind a calm read failed in all
module _ (old now next : Asked) (handles : now.from.handles ≡ old.from.handles) (faults_are : now.faults ≡ old.faults) where
  uncounted_on : AreUncounted now next → AreUncounted old next
  uncounted_on calm = (calm.0 ∙ handles, calm.1 ∙ faults_are)

  disk_on : DiskFailed now next → DiskFailed old next
  disk_on failed = (failed.0 ∙ handles, subst (λ (count : ℕ). Rose count next.faults) faults_are failed.1)

  handle_on : (slot : ℕ) → HandleFailed slot now next → HandleFailed slot old next
  handle_on slot failed = (
    failed.0 ∙ ap (λ (table : Table). counted_at table slot (faults_at next.from.handles slot)) handles,
    failed.1 ∙ faults_are,
    subst (λ (table : Table). Rose (faults_at table slot) (faults_at next.from.handles slot)) handles failed.2,
  )

module _ (shares : List (Option Share)) (views : List View) (old now next : Asked) (off : ℕ) (whole : List (ℕ × ℕ)) (place skip done count n : ℕ)
    (out : List ℕ) (view : View) (item : Item)
    (inside : place < length views) (is : view ≡ get_or views place view) (within : skip < view.len) (some : done < count) (size_is : suc n ≡ min
    (view.len - skip) (count - done))
    (there : item_at shares view.slot ≡ Some item) (so_far : SoFar shares views old now off whole place skip done count out) where
  -- the cells behind those of the part
  abbrev tail : List (ℕ × ℕ)
  tail = take (count - done - suc n) (cells (drop (place + 1) views))

  whole_is : whole ≡ so_far.taken ++ (cells_of view.slot (view.off + skip) (suc n) ++ tail)
  whole_is =
      let here : drop place views ≡ view ∷ drop (place + 1) views = drop_more views place view inside
      ∙ ap (λ (v : View). v ∷ drop (place + 1) views) (sym is) in
      let sized : min (count - done) (view.len - skip) ≡ suc n = omega (arith, size_is) in
      let split : take (count - done) (drop skip (cells (drop place views))) ≡ cells_of view.slot (view.off + skip) (suc n) ++ tail =
      rw (here, step view (drop (place + 1) views) skip (count - done) within, sized) refl in
      so_far.parts ∙ ap (λ (cells : List (ℕ × ℕ)). so_far.taken ++ cells) split

  -- where a cell of the part stands
  place_is : (front : List (ℕ × ℕ)) → length front < suc n → IsPlaceOf views (off + length (so_far.taken ++ front)) (place, skip + length front)
  place_is front fits =
      let long = length-append so_far.taken front in
      let next_total = more_total place views view inside is in
      record {
        view = inside;
        before = omega (arith, so_far.at some, long, so_far.long);
        within = omega (arith, so_far.at some, long, so_far.long, next_total, fits, size_is, within);
      }

  first_stops : (fault : ItemFault) → Fails shares old next (view.slot, view.off + skip) fault → Stops shares views old next off whole place fault
  first_stops fault fails = record {
    front = so_far.taken;
    cell = (view.slot, view.off + skip);
    skipped = skip;
    stops = record { rest = cells_of view.slot (view.off + skip + 1) n ++ tail; parts = whole_is; passes = so_far.read.fails };
    place = rw_place (place_is [] (omega arith));
    fails = fails;
  }
    where
      rw_place : IsPlaceOf views (off + length (so_far.taken ++ [])) (place, skip + 0) → IsPlaceOf views (off + length so_far.taken) (place, skip)
      rw_place at =
          let long : length (so_far.taken ++ []) ≡ length so_far.taken = length-append so_far.taken [] ∙ omega arith in
          record { view = at.view; before = omega (arith, at.before, long); within = omega (arith, at.within, long) }

  split_stops : Splits (cell_fails old.from.files shares) (cells_of view.slot (view.off + skip) (suc n)) → AreUncounted old next
      → Stops shares views old next off whole place faults.Changed
  split_stops split calm =
      let front = split.front in
      let rest = split.rest in
      let parts : whole ≡ (so_far.taken ++ front) ++ split.cell ∷ (rest ++ tail) =
      whole_is ∙ ap (λ (cells : List (ℕ × ℕ)). so_far.taken ++ (cells ++ tail)) split.parts
      ∙ ap (λ (cells : List (ℕ × ℕ)). so_far.taken ++ cells) (append_assoc front (split.cell ∷ rest) tail)
      ∙ sym (append_assoc so_far.taken front (split.cell ∷ (rest ++ tail))) in
      let long : suc n ≡ length front + suc (length rest) = sym (length_cells_of view.slot (view.off + skip) (suc n)) ∙ ap length split.parts
      ∙ length-append front (split.cell ∷ rest) in
      record {
        front = so_far.taken ++ front;
        cell = split.cell;
        skipped = skip + length front;
        stops = record {
          rest = rest ++ tail;
          parts = parts;
          passes = none_both
              (cell_fails old.from.files shares) so_far.taken front so_far.read.fails split.before;
        };
        place = place_is front (omega (arith, long));
        fails = (split.passes, calm);
      }

  -- the part of an item that was not read has the cell at which the read stops
  pub stops_here : (fault : ItemFault) → ItemFails now next item (view.off + skip) (suc n) fault → Stops shares views old next off whole place fault
  stops_here faults.Changed fails =
      let last : view.off + skip + suc n - 1 ≡ view.off + skip + n = omega arith in
      let at_last : cell_fails now.from.files shares (view.slot, view.off + skip + n) ≡ true =
      ap (λ (found : Option Item). option_map_or (item_fails now.from.files (view.off + skip + n)) found false) there
      ∙ ap (λ (at : ℕ). item_fails now.from.files at item) (sym last) ∙ fails.0 in
      let at_old : cell_fails old.from.files shares (view.slot, view.off + skip + n) ≡ true = subst (λ
      (from : Origins). cell_fails from.files shares (view.slot, view.off + skip + n) ≡ true) so_far.from at_last in
      split_stops (splits (cell_fails old.from.files shares) (cells_of view.slot (view.off + skip) (suc n)) (last_passes
      (cell_fails old.from.files shares) view.slot (view.off + skip) n at_old))
      (uncounted_on old now next so_far.read.calm.handles so_far.read.calm.faults fails.1)
  stops_here (faults.Page page) fails =
      first_stops (faults.Page page) (
        subst (λ (found : Option Item). IsSomeAnd found (IsInPage page))
            (sym there) fails.0,
        disk_on old now next so_far.read.calm.handles so_far.read.calm.faults fails.1,
      )
  stops_here (faults.Handle slot) fails =
      first_stops (faults.Handle slot) (
        subst (λ (found : Option Item). IsSomeAnd found (IsOfHandle slot))
            (sym there) fails.0,
        handle_on old now next so_far.read.calm.handles so_far.read.calm.faults slot fails.1,
      )

-- the same, where the part has so many bytes
pub stops_at : (shares : List (Option Share)) (views : List View) (old now next : Asked) (off : ℕ) (whole : List (ℕ × ℕ))
    (place skip done count size : ℕ) (out : List ℕ) (view : View) (item : Item) (fault : ItemFault)
    → place < length views → view ≡ get_or views place view → skip < view.len → done < count → size ≡ min (view.len - skip) (count - done)
    → item_at shares view.slot ≡ Some item
    → SoFar shares views old now off whole place skip done count out → ItemFails now next item (view.off + skip) size fault
    → Stops shares views old next off whole place fault
stops_at shares views old now next off whole place skip done count size out view item fault inside is within some size_is there so_far fails =
    let more : size ≡ suc (size - 1) = omega (arith, size_is, within, some) in
    stops_here shares views old now next off whole place skip done count (size - 1) out view item inside is within some (sym more ∙ size_is) there so_far fault
    (subst (λ (part : ℕ). ItemFails now next item (view.off + skip) part fault) more fails)
