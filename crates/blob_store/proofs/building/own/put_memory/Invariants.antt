use Rattle.std.proofs.Common.{◌≡◌, ◌+◌, map, sum_by, take}
use Rattle.blob_items.specs.Cells.{total}
use Rattle.segment_assembly.specs.Assembly.{bytes_at}
use Rattle.store_laws.specs.NewItems.{memory_items}
use Rattle.blob_store.specs.NewItems.{span_length}
use Rattle.blob_store.specs.Putting.{ArePut}
use Rattle.blob_store.proofs.building.own.put_memory.Given as goal

abbrev pub invariant-loop-span : goal.invariant-loop-span
invariant-loop-span l = record {
  put : ArePut l.fn.shares (memory_items l.first (map (bytes_at l.bytes) (take l.span-index l.spans))) l.views l.shares;
  next : l.number ≡ l.first + l.span-index;
  fits : total l.views ≡ sum_by span_length (take l.span-index l.spans);
}
