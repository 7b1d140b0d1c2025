use Rattle.std.proofs.Common.{rules, ◌≡◌, ◌+◌, ◌-◌, ◌<◌, ◌≤◌, ◌∙◌, Some, drop, length, min, arith}
use Rattle.blob_items.specs.Cells.{total}
use Rattle.blob_items.proofs.CutLemmas.{first_some, total_left, view_there, view_within}
use Rattle.item_shares.specs.Shares.{item_at}
use Rattle.range_reader.specs.Bytes.{origins}
use Rattle.range_reader.proofs.Reading.{next_lies, read_on}
use Rattle.range_reader.proofs.Stopping.{stops_at}
use Rattle.range_reader.proofs.views.read_views.Goals as goal

pub read_at-requires-clause-lies : goal.read_at-requires-clause-lies
read_at-requires-clause-lies g c =
    let views = c.args.views.now in
    let so_far = c.loop-done.invariant in
    let more : c.loop-done.done < length c.args.out.now = omega (arith, c.loop-done-test.true, so_far.size) in
    let first = so_far.within more in
    let inside = view_there views c.loop-done.place c.loop-done.skip first in
    let view = c.index-views-place.result in
    let within = view_within views c.loop-done.place c.loop-done.skip view inside c.index-views-place.is first in
    let there : item_at c.args.shares.now view.slot ≡ Some c.in-Some.item.now = search rules in
    next_lies _ _ c.args.shares.now views c.loop-done.place c.loop-done.skip c.min-size.result view c.in-Some.item.now so_far.so_far.from c.requires.lie inside
    c.index-views-place.is (omega (arith, within, c.min-size.ensures)) there

pub loop-done-smaller : goal.loop-done-smaller
loop-done-smaller g c =
    let views = c.args.views.now in
    let so_far = c.loop-done.invariant in
    let more : c.loop-done.done < length c.args.out.now = omega (arith, c.loop-done-test.true, so_far.size) in
    let first = so_far.within more in
    let inside = view_there views c.loop-done.place c.loop-done.skip first in
    let within = view_within views c.loop-done.place c.loop-done.skip c.index-views-place.result inside c.index-views-place.is first in
    omega (arith, more, within, c.min-size.ensures)

pub loop-done-preserved : goal.loop-done-preserved
loop-done-preserved g c =
    let views = c.args.views.now in
    let count = length c.args.out.now in
    let so_far = c.loop-done.invariant in
    let place = c.loop-done.place in
    let skip = c.loop-done.skip in
    let done = c.loop-done.done in
    let view = c.index-views-place.result in
    let size = c.min-size.result in
    let more : done < count = omega (arith, c.loop-done-test.true, so_far.size) in
    let first = so_far.within more in
    let inside = view_there views place skip first in
    let within = view_within views place skip view inside c.index-views-place.is first in
    let there : item_at c.args.shares.now view.slot ≡ Some c.in-Some.item.now = search rules in
    let size_is : size ≡ min (view.len - skip) (count - done) = c.min-size.ensures ∙ omega (arith, so_far.size) in
    let rest = total_left views place view inside c.index-views-place.is in
    let room : count - (done + size) ≤ total (drop (place + 1) views) = omega (arith, so_far.room, rest, size_is, within) in
    let long : length c.read_at.new.out ≡ count = search rules in
    record {
      closed = c.in-Ok.ensures.closed;
      same = c.in-Ok.ensures.same ∙ so_far.same;
      size = long;
      within = λ left. first_some (drop (place + 1) views) (omega (arith, room, left));
      room = omega (arith, room);
      done = omega (arith, size_is, more);
      so_far = read_on _ views _ _ _ _ _ place skip done count size _ c.read_at.new.out view c.in-Some.item.now inside c.index-views-place.is within more
          size_is there long c.in-Ok.ensures.front (λ i. origins c.args.files.now (c.in-Ok.ensures.same i) (c.in-Ok.ensures.ok.calm.0 i)) so_far.so_far
          c.in-Ok.ensures.ok;
    }

pub returns-in-Err-clause-err : goal.returns-in-Err-clause-err
returns-in-Err-clause-err g c =
    let views = c.args.views.now in
    let count = length c.args.out.now in
    let so_far = c.loop-done.invariant in
    let place = c.loop-done.place in
    let skip = c.loop-done.skip in
    let done = c.loop-done.done in
    let view = c.index-views-place.result in
    let size = c.min-size.result in
    let more : done < count = omega (arith, c.loop-done-test.true, so_far.size) in
    let first = so_far.within more in
    let inside = view_there views place skip first in
    let within = view_within views place skip view inside c.index-views-place.is first in
    let there : item_at c.args.shares.now view.slot ≡ Some c.in-Some.item.now = search rules in
    let size_is : size ≡ min (view.len - skip) (count - done) = c.min-size.ensures ∙ omega (arith, so_far.size) in
    stops_at c.args.shares.now views _ _ _ _ _ place skip done count size _ view c.in-Some.item.now c.in-Err.fault inside c.index-views-place.is within more
    size_is there so_far.so_far c.in-Err.ensures.err
