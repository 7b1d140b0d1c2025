-- The views of the cut and what is left of it make the cells asked for, before and after each view.
use Rattle.std.proofs.Common.{◌+◌, ◌-◌, ◌≤◌, List, drop, sym, subst, refl, ◌∙◌, arith}
use Rattle.std.proofs.lemmas.List.{length_push}
use Rattle.blob_items.specs.declared.view.View.{View}
use Rattle.blob_items.specs.Cells.{total, IsPlaceOf}
use Rattle.blob_items.proofs.CutLemmas.{cells_behind, first_within, room_left, first_some, view_there, view_within, total_left, total_push, next_cells}
use Rattle.blob_items.proofs.view_list.ViewList.cut.Goals as goal

pub loop-left-init : goal.loop-left-init
loop-left-init c =
    let views = c.self.inside.views.items in
    let is : IsPlaceOf views c.args.off (c.in-Some.first, c.in-Some.skipped) =
    subst (λ (vs : List View). IsPlaceOf vs c.args.off (c.in-Some.first, c.in-Some.skipped)) (sym c.self.view_is) c.in-Some.ensures in
    let fits : c.args.off + c.args.len ≤ total views = subst (λ (vs : List View). c.args.off + c.args.len ≤ total vs) (sym c.self.view_is) c.requires in
    let behind = cells_behind views c.args.off c.in-Some.first c.in-Some.skipped is.before in
    record {
      cells = rw (c.new-list.ensures, behind) refl;
      size = rw c.new-list.ensures (omega arith);
      room = omega (arith, fits, is.before, room_left views c.in-Some.first);
      within = λ _. first_within views c.args.off (c.in-Some.first, c.in-Some.skipped) is;
      count = rw c.new-list.ensures (omega arith);
      place = omega (arith, is.view);
    }

pub loop-left-preserved : goal.loop-left-preserved
loop-left-preserved c =
    let views = c.self.inside.views.items in
    let so_far = c.loop-left.invariant in
    let place = c.loop-left.place in
    let skip = c.loop-left.skip in
    let left = c.loop-left.left in
    let view = c.index-view.result.now in
    let first = so_far.within c.loop-left-test.true in
    let inside = view_there views place skip first in
    let within = view_within views place skip view inside c.index-view.ensures first in
    let rest = total_left views place view inside c.index-view.ensures in
    let pushed = c.in_ok-push.ensures.ok in
    let room : left - c.min-size.result ≤ total (drop (place + 1) views) = omega (arith, so_far.room, rest, c.min-size.ensures, within) in
    record {
      cells = rw pushed (next_cells views c.loop-left.list view _ place skip left inside c.index-view.ensures within refl refl c.min-size.ensures ∙
          so_far.cells);
      size = rw (pushed, total_push) (omega (arith, so_far.size, c.min-size.ensures));
      room = omega (arith, room);
      within = λ some. first_some (drop (place + 1) views) (omega (arith, room, some));
      count = rw (pushed, length_push) (omega (arith, so_far.count));
      place = omega (arith, inside);
    }
