-- As many pieces are held more as there are views.
use Rattle.std.proofs.Common.{◌≡◌, List, length, ap, ◌∙◌, arith}
use Rattle.blob_items.specs.declared.view.View.{View}
use Rattle.blob_model.specs.Parts.{own_lengths}
use Rattle.transport_plan.specs.Spans.{piece_count}
use Rattle.blob_store.proofs.OwnPieces.{many_brought}
use Rattle.blob_store.proofs.parts.Parts.lay_filed.Goals as goal

pub overflow_cast-self : goal.overflow_cast-self
overflow_cast-self c =
    let page = c.args.self.now.limits.page in
    let many : length c.as_slice-2.result.now ≡ piece_count page (own_lengths c.args.parts.now) =
    ap (λ (views : List View). length views) c.as_slice-2.ensures
    ∙ many_brought page c.args.parts.now c.len-first.result c.put_filed.new.shares c.in_ok-views.views c.in_ok-views.ensures.brought in
    omega (arith, many, c.requires.held)

pub overflow_add-self : goal.overflow_add-self
overflow_add-self c =
    let page = c.args.self.now.limits.page in
    let many : length c.as_slice-2.result.now ≡ piece_count page (own_lengths c.args.parts.now) =
    ap (λ (views : List View). length views) c.as_slice-2.ensures
    ∙ many_brought page c.args.parts.now c.len-first.result c.put_filed.new.shares c.in_ok-views.views c.in_ok-views.ensures.brought in
    omega (arith, many, c.requires.held)
