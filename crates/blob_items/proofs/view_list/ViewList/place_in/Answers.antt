-- The view at the place has the cell where the place isn't before its start nor behind its end.
use Rattle.std.proofs.Common.{◌≡◌, ℕ, ◌+◌, ◌-◌, ◌<◌, List, get_or, length, take, ap, ◌∙◌, subst, arith}
use Rattle.blob_items.specs.declared.view.View.{View}
use Rattle.blob_items.specs.Cells.{total, IsPlaceOf}
use Rattle.blob_items.proofs.StartLemmas.{length_starts, more_total, start_at}
use Rattle.blob_items.proofs.view_list.ViewList.place_in.Goals as goal

pub index-start-requires : goal.index-start-requires
index-start-requires c =
    let same : length c.self.inside.starts.items ≡ length c.self.inside.views.items = ap length c.self.invariant.0 ∙ length_starts 0 c.self.inside.views.items
    in
    omega (arith, same, c.if-place-len.false, c.len.ensures, c.self.inside.starts.ok.0, c.self.inside.views.ok.0)

pub returns : goal.returns
returns c =
    let views = c.self.inside.views.items in
    let place = c.args.place in
    let view = c.index.result.now in
    let inside : place < length views = omega (arith, c.if-place-len.false, c.len.ensures, c.self.inside.views.ok.0) in
    let start : c.index-start.result.now ≡ 0 + total (take place views) =
    c.index-start.ensures ∙ ap (λ (starts : List ℕ). get_or starts place c.index-start.result.now) c.self.invariant.0 ∙ start_at 0 place views
    c.index-start.result.now inside in
    let next = more_total place views view inside c.index.ensures in
    let after = c.if-off-start.false in
    let before = c.if-off-start-2.false in
    subst (λ (all : List View). IsPlaceOf all c.args.off (place, c.args.off - c.index-start.result.now)) c.self.view_is
    (record { view = inside; before = omega (arith, start, after); within = omega (arith, start, next, after, before) })
