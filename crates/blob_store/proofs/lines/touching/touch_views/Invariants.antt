-- What is still to be touched is touched behind what was.
use Rattle.std.proofs.Common.{◌≡◌, ◌+◌, ◌<◌, ◌≤◌, drop, take}
use Rattle.blob_items.specs.Cells.{cells, total}
use Rattle.store_laws.specs.StepLaws.{read_numbers, touched_all}
use Rattle.blob_store.proofs.lines.touching.touch_views.Given as goal

abbrev pub invariant-loop-left : goal.invariant-loop-left
invariant-loop-left l = record {
  within : 0 < l.left → l.skip < total (take 1 (drop l.place l.views));
  room : l.skip + l.left ≤ total (drop l.place l.views);
  rest : touched_all l.recent (read_numbers l.shares (take l.left (drop l.skip (cells (drop l.place l.views)))))
      ≡ touched_all l.fn.recent (read_numbers l.shares (take l.count (drop l.skipped (cells (drop l.first l.views)))));
}

abbrev pub decreases-loop-left : goal.decreases-loop-left
decreases-loop-left l = l.left
