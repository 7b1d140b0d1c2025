use Rattle.std.proofs.Common.{◌≡◌, ◌+◌, ◌-◌, ◌≤◌, ◌++◌, length, take, vec_len}
use Rattle.std.specs.Vec.{vec_capacity}
use Rattle.blob_items.specs.Cells.{total}
use Rattle.blob_items.specs.Starts.{starts_from}
use Rattle.blob_items.proofs.starts.push_starts.Given as goal

abbrev pub invariant-loop-view : goal.invariant-loop-view
invariant-loop-view l =
    record {
      starts : l.starts.items ≡ l.fn.starts.items ++ starts_from l.from (take l.view-index l.views);
      place : l.place ≡ l.from + total (take l.view-index l.views);
      room : vec_len l.starts + (length l.views - l.view-index) ≤ vec_capacity l.starts;
    }
