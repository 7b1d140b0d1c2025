-- Each turn touches the piece of one view.
use Rattle.std.proofs.Common.{◌≡◌, ◌+◌, ◌-◌, ◌≤◌, ◌∷◌, drop, take, sym, ap, ◌∙◌, arith}
use Rattle.std.proofs.lemmas.List.{drop_more}
use Rattle.blob_items.specs.Cells.{cells, total}
use Rattle.blob_items.specs.declared.view.View.{View}
use Rattle.blob_items.proofs.CutLemmas.{first_some, total_left, view_there, view_within}
use Rattle.store_laws.specs.StepLaws.{read_numbers, touched_all}
use Rattle.blob_store.proofs.Touching.{rest_touched}
use Rattle.blob_store.proofs.lines.touching.touch_views.Goals as goal

pub loop-left-preserved : goal.loop-left-preserved
loop-left-preserved c =
    let views = c.args.views.now in
    let so_far = c.loop-left.invariant in
    let place = c.loop-left.place in
    let skip = c.loop-left.skip in
    let left = c.loop-left.left in
    let view = c.index-views-place.result in
    let first = so_far.within c.loop-left-test.true in
    let inside = view_there views place skip first in
    let within = view_within views place skip view inside c.index-views-place.is first in
    let rest = total_left views place view inside c.index-views-place.is in
    let room : 0 + (left - c.min-left.result) ≤ total (drop (place + 1) views) = omega (arith, so_far.room, rest, c.min-left.ensures, within) in
    let here : drop place views ≡ view ∷ drop (place + 1) views =
    drop_more views place view inside ∙ ap (λ (one : View). one ∷ drop (place + 1) views) (sym c.index-views-place.is) in
    record {
      within = λ more. first_some (drop (place + 1) views) (omega (arith, room, more));
      room = room;
      rest = ap (λ order. touched_all order (read_numbers c.args.shares.now (take (left - c.min-left.result) (cells (drop (place + 1) views)))))
          c.touch_slot.ensures
          ∙ rest_touched c.args.shares.now (drop place views) (drop (place + 1) views) view skip left c.min-left.result c.loop-left.recent here within
          c.loop-left-test.true c.min-left.ensures
          ∙ so_far.rest;
    }
