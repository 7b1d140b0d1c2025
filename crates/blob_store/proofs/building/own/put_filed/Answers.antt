-- The spans of the own pieces are as long as the pieces.
use Rattle.std.proofs.Common.{◌≡◌, ℕ, ◌<◌, List, length, map, sum_by, sym, ap, subst, ◌∙◌, arith}
use Rattle.std.specs.List.{AllByRecursion}
use Rattle.item_shares.specs.declared.item.Item.{Item}
use Rattle.blob_model.specs.Parts.{own_lengths}
use Rattle.transport_plan.specs.Spans.{piece_spans}
use Rattle.store_laws.specs.EntryLaws.{AreBrought}
use Rattle.store_laws.specs.NewItems.{reserved_items}
use Rattle.blob_store.specs.NewItems.{span_length}
use Rattle.blob_store.specs.Putting.{ArePut}
use Rattle.blob_store.proofs.Arriving.{reserved_brought}
use Rattle.blob_store.proofs.OwnPieces.{spans_few, spans_lengths, spans_some, spans_sum}
use Rattle.blob_store.proofs.building.own.put_filed.Goals as goal

pub put_reserved-requires-clause-few : goal.put_reserved-requires-clause-few
put_reserved-requires-clause-few c =
    let spans : c.as_slice-2.result.now ≡ piece_spans c.args.page 0 (own_lengths c.args.parts.now) =
    c.as_slice-2.ensures ∙ c.in_ok-spans.ensures ∙ ap (piece_spans c.args.page 0) (c.as_slice.ensures ∙ c.in_ok-lengths.ensures) in
    let many = ap (λ (list : List (ℕ × ℕ)). length list) spans ∙ spans_few c.args.page c.args.parts.now in
    omega (arith, many, c.requires.few)

pub put_reserved-requires-clause-some : goal.put_reserved-requires-clause-some
put_reserved-requires-clause-some c =
    let spans : c.as_slice-2.result.now ≡ piece_spans c.args.page 0 (own_lengths c.args.parts.now) =
    c.as_slice-2.ensures ∙ c.in_ok-spans.ensures ∙ ap (piece_spans c.args.page 0) (c.as_slice.ensures ∙ c.in_ok-lengths.ensures) in
    subst (AllByRecursion (λ (span : ℕ × ℕ). 0 < span_length span)) (sym spans) (spans_some c.args.page c.args.parts.now c.requires.page)

pub put_reserved-requires-clause-fits : goal.put_reserved-requires-clause-fits
put_reserved-requires-clause-fits c =
    let spans : c.as_slice-2.result.now ≡ piece_spans c.args.page 0 (own_lengths c.args.parts.now) =
    c.as_slice-2.ensures ∙ c.in_ok-spans.ensures ∙ ap (piece_spans c.args.page 0) (c.as_slice.ensures ∙ c.in_ok-lengths.ensures) in
    let all = ap (λ (list : List (ℕ × ℕ)). sum_by span_length list) spans ∙ spans_sum c.args.page c.args.parts.now c.requires.page in
    omega (arith, all, c.requires.fits)

pub returns-clause-put : goal.returns-clause-put
returns-clause-put c =
    let spans : c.as_slice-2.result.now ≡ piece_spans c.args.page 0 (own_lengths c.args.parts.now) =
    c.as_slice-2.ensures ∙ c.in_ok-spans.ensures ∙ ap (piece_spans c.args.page 0) (c.as_slice.ensures ∙ c.in_ok-lengths.ensures) in
    subst (λ (items : List Item). ArePut c.args.shares.now items c.in_ok-views.views c.put_reserved.new.shares)
    (ap (λ (list : List (ℕ × ℕ)). reserved_items c.args.first (map span_length list)) spans
    ∙ ap (reserved_items c.args.first) (spans_lengths c.args.page c.args.parts.now))
    c.in_ok-views.ensures

pub returns-clause-brought : goal.returns-clause-brought
returns-clause-brought c =
    let spans : c.as_slice-2.result.now ≡ piece_spans c.args.page 0 (own_lengths c.args.parts.now) =
    c.as_slice-2.ensures ∙ c.in_ok-spans.ensures ∙ ap (piece_spans c.args.page 0) (c.as_slice.ensures ∙ c.in_ok-lengths.ensures) in
    let lengths = ap (λ (list : List (ℕ × ℕ)). map span_length list) spans ∙ spans_lengths c.args.page c.args.parts.now in
    subst (λ (list : List ℕ). AreBrought c.put_reserved.new.shares c.args.first list c.in_ok-views.views) lengths
    (reserved_brought c.put_reserved.new.shares c.args.first (map span_length c.as_slice-2.result.now) c.in_ok-views.views c.in_ok-views.ensures.held
    c.in_ok-views.ensures.whole)
