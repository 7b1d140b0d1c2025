use Rattle.std.proofs.Common.{◌≡◌, ◌+◌, ◌<◌, ◌≤◌, ◌++◌, length, take, drop}
use Rattle.blob_items.specs.Cells.{cells, total}
use Rattle.blob_items.proofs.view_list.ViewList.cut.Given as goal

abbrev pub invariant-loop-left : goal.invariant-loop-left
invariant-loop-left l =
    record {
      cells : cells l.list ++ take l.left (drop l.skip (cells (drop l.place l.self-inside.views.items)))
          ≡ take l.len (drop l.off (cells l.self-inside.views.items));
      size : total l.list + l.left ≡ l.len;
      room : l.skip + l.left ≤ total (drop l.place l.self-inside.views.items);
      within : 0 < l.left → l.skip < total (take 1 (drop l.place l.self-inside.views.items));
      count : length l.list ≤ l.place;
      place : l.place ≤ length l.self-inside.views.items;
    }

abbrev pub decreases-loop-left : goal.decreases-loop-left
decreases-loop-left l = l.left
