-- The cells from a place on are those of the views from its view on.
use Rattle.std.proofs.Common.{◌+◌, ◌≤◌, arith, drop, sym, ap, take, ◌∙◌}
use Rattle.std.specs.Prelude.{List, ℕ}
use Rattle.blob_items.specs.Cells.{cells, total}
use Rattle.blob_items.specs.declared.view.View.{View}
use Rattle.blob_items.proofs.CutLemmas.{cells_behind, first_within, room_left}
use Rattle.store_laws.specs.StepLaws.{read_numbers, touched_all}
use Rattle.blob_store.proofs.Reading.{place_found}
use Rattle.blob_store.proofs.lines.touching.touch_read.Goals as goal

pub touch_views-requires-clause-within : goal.touch_views-requires-clause-within
touch_views-requires-clause-within c =
    let is = place_found c.args.views.now c.args.place c.find.result c.unwrap-first.result c.find.ensures c.unwrap-first.ensures in
    let same = c.as_slice.ensures in
    rw same (first_within c.args.views.now c.args.place c.unwrap-first.result is)

pub touch_views-requires-clause-room : goal.touch_views-requires-clause-room
touch_views-requires-clause-room c =
    let is = place_found c.args.views.now c.args.place c.find.result c.unwrap-first.result c.find.ensures c.unwrap-first.ensures in
    let same = c.as_slice.ensures in
    let room : c.unwrap-first.result.1 + c.args.count ≤ total (drop c.unwrap-first.result.0 c.args.views.now) =
    omega (arith, is.before, c.requires.room, room_left c.args.views.now c.unwrap-first.result.0) in
    rw same room

pub returns : goal.returns
returns c =
    let is = place_found c.args.views.now c.args.place c.find.result c.unwrap-first.result c.find.ensures c.unwrap-first.ensures in
    c.touch_views.ensures
    ∙ ap (λ (views : List View). touched_all c.args.recent.now (read_numbers c.args.shares.now
    (take c.args.count (drop c.unwrap-first.result.1 (cells (drop c.unwrap-first.result.0 views)))))) c.as_slice.ensures
    ∙ ap (λ (list : List (ℕ × ℕ)). touched_all c.args.recent.now (read_numbers c.args.shares.now (take c.args.count list)))
    (sym (cells_behind c.args.views.now c.args.place c.unwrap-first.result.0 c.unwrap-first.result.1 is.before))
