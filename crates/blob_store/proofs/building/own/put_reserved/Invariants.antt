use Rattle.std.proofs.Common.{◌≡◌, ◌+◌, map, sum_by, take}
use Rattle.blob_items.specs.Cells.{total}
use Rattle.store_laws.specs.NewItems.{reserved_items}
use Rattle.blob_store.specs.NewItems.{span_length}
use Rattle.blob_store.specs.Putting.{ArePut}
use Rattle.blob_store.proofs.building.own.put_reserved.Given as goal

abbrev pub invariant-loop-span : goal.invariant-loop-span
invariant-loop-span l = record {
  put : ArePut l.fn.shares (reserved_items l.first (map span_length (take l.span-index l.spans))) l.views l.shares;
  next : l.number ≡ l.first + l.span-index;
  fits : total l.views ≡ sum_by span_length (take l.span-index l.spans);
}
