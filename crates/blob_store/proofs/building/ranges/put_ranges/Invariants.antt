use Rattle.std.proofs.Common.{◌≤◌, take}
use Rattle.blob_items.specs.Cells.{total}
use Rattle.blob_model.specs.Parts.{parts_length}
use Rattle.store_laws.specs.NewItems.{range_items}
use Rattle.blob_store.specs.Putting.{ArePut}
use Rattle.blob_store.proofs.building.ranges.put_ranges.Given as goal

abbrev pub invariant-loop-part : goal.invariant-loop-part
invariant-loop-part l = record {
  put : ArePut l.fn.shares (range_items (take l.part-index l.parts)) l.views l.shares;
  few : total l.views ≤ parts_length (take l.part-index l.parts);
}
