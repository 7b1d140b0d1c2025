-- The start of one view more.
use Rattle.std.proofs.Common.{arith, append_assoc}
use Rattle.blob_items.proofs.StartLemmas.{more_starts, more_total}
use Rattle.blob_items.proofs.starts.push_starts.Goals as goal

pub loop-view-preserved : goal.loop-view-preserved
loop-view-preserved c =
    let i = c.loop-view.view-index in
    let so_far = c.loop-view.invariant in
    let starts = more_starts c.args.from i c.args.views.now c.view-item.result c.loop-view-test.true c.view-item.is in
    let place = more_total i c.args.views.now c.view-item.result c.loop-view-test.true c.view-item.is in
    let pushed = rw c.unwrap.ensures at c.push.ensures.items in
    let longer = rw c.unwrap.ensures at c.push.ensures.len in
    record {
      starts = rw (starts, ← append_assoc, ← so_far.starts, ← so_far.place) pushed;
      place = omega (arith, so_far.place, place);
      room = omega (arith, so_far.room, longer, c.push.ensures.capacity, c.loop-view-test.true);
    }
