-- By the last start that isn't behind the place.
use Rattle.std.proofs.Common.{ℕ, ◌-◌, ◌<◌, List, get_or, sym, subst, ap, ◌∙◌, arith}
use Rattle.blob_items.specs.declared.view.View.{View}
use Rattle.blob_items.specs.Cells.{total, IsPlaceOf}
use Rattle.blob_items.proofs.StartLemmas.{starts_part}
use Rattle.blob_items.proofs.FindLemmas.{kept_begun, kept_found}
use Rattle.blob_items.proofs.view_list.ViewList.find.Goals as goal

pub begun-place-requires : goal.begun-place-requires
begun-place-requires c =
    rw (c.as_slice.ensures.value, c.self.invariant.0) (starts_part c.args.off c.self.inside.views.items)

pub overflow_sub-place : goal.overflow_sub-place
overflow_sub-place c =
    let kept = c.as_slice.ensures.value ∙ c.self.invariant.0 in
    let inside : c.args.off < total c.self.inside.views.items = omega (arith, c.if-off-self.false, c.self.invariant.1) in
    kept_begun c.self.inside.views.items c.as_slice.result.now c.args.off c.begun-place.result kept inside c.begun-place.ensures.point

pub index-requires : goal.index-requires
index-requires c =
    let kept = c.as_slice.ensures.value ∙ c.self.invariant.0 in
    let inside : c.args.off < total c.self.inside.views.items = omega (arith, c.if-off-self.false, c.self.invariant.1) in
    let some = kept_begun c.self.inside.views.items c.as_slice.result.now c.args.off c.begun-place.result kept inside c.begun-place.ensures.point in
    omega (arith, some, c.begun-place.ensures.bound, c.as_slice.ensures.len)

pub overflow_sub-result : goal.overflow_sub-result
overflow_sub-result c =
    let kept = c.as_slice.ensures.value ∙ c.self.invariant.0 in
    let inside : c.args.off < total c.self.inside.views.items = omega (arith, c.if-off-self.false, c.self.invariant.1) in
    let some = kept_begun c.self.inside.views.items c.as_slice.result.now c.args.off c.begun-place.result kept inside c.begun-place.ensures.point in
    let is = c.index.ensures ∙ ap (λ (xs : List ℕ). get_or xs (c.begun-place.result - 1) c.index.result.now) (sym c.as_slice.ensures.value) in
    (kept_found c.self.inside.views.items c.as_slice.result.now c.args.off c.begun-place.result kept inside c.index.result.now some c.begun-place.ensures.bound
    c.begun-place.ensures.point is).0

pub returns : goal.returns
returns c =
    let kept = c.as_slice.ensures.value ∙ c.self.invariant.0 in
    let inside : c.args.off < total c.self.inside.views.items = omega (arith, c.if-off-self.false, c.self.invariant.1) in
    let some = kept_begun c.self.inside.views.items c.as_slice.result.now c.args.off c.begun-place.result kept inside c.begun-place.ensures.point in
    let is = c.index.ensures ∙ ap (λ (xs : List ℕ). get_or xs (c.begun-place.result - 1) c.index.result.now) (sym c.as_slice.ensures.value) in
    subst (λ (views : List View). IsPlaceOf views c.args.off (c.begun-place.result - 1, c.args.off - c.index.result.now)) c.self.view_is
    (kept_found c.self.inside.views.items c.as_slice.result.now c.args.off c.begun-place.result kept inside c.index.result.now some c.begun-place.ensures.bound
    c.begun-place.ensures.point is).1
