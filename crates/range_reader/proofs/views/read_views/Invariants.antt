use Rattle.std.proofs.Common.{◌≡◌, ◌+◌, ◌-◌, ◌<◌, ◌≤◌, None, drop, length, take}
use Rattle.blob_items.specs.Cells.{cells, total}
use Rattle.data_handles.specs.Boxes.{of_table}
use Rattle.range_reader.specs.Bytes.{origins}
use Rattle.range_reader.specs.Steps.{asked}
use Rattle.range_reader.proofs.Reading.{SoFar}
use Rattle.range_reader.proofs.views.read_views.Given as goal

abbrev pub invariant-loop-done : goal.invariant-loop-done
invariant-loop-done g l = record {
  closed : g.D.PageDisk.writing l.disk ≡ None;
  same : g.D.PageDisk.changes l.disk ≡ g.D.PageDisk.changes l.fn.disk;
  size : length l.out ≡ length l.fn.out;
  within : l.done < length l.fn.out → l.skip < total (take 1 (drop l.place l.views));
  room : l.skip + (length l.fn.out - l.done) ≤ total (drop l.place l.views);
  done : l.done ≤ length l.fn.out;
  so_far :
      SoFar l.shares l.views
      (asked l.files (g.D.PageDisk.changes l.fn.disk) (of_table (λ boxed. (goal.DataHandle-dyn g
      (boxed.object.vtable, boxed.object.value)).seen boxed.object.value) l.fn.handles)
      (g.D.PageDisk.faults l.fn.disk) (g.D.PageDisk.meter l.fn.disk))
      (asked l.files (g.D.PageDisk.changes l.disk) (of_table (λ boxed. (goal.DataHandle-dyn g
      (boxed.object.vtable, boxed.object.value)).seen boxed.object.value) l.handles)
      (g.D.PageDisk.faults l.disk) (g.D.PageDisk.meter l.disk))
      (total (take l.first l.views) + l.skipped) (take (length l.fn.out) (drop l.skipped (cells (drop l.first l.views)))) l.place l.skip l.done
      (length l.fn.out) l.out;
}

abbrev pub decreases-loop-done : goal.decreases-loop-done
decreases-loop-done g l = length l.fn.out - l.done
