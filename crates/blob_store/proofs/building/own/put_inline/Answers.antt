-- The spans of the own pieces lie inside the bytes of the line.
use Rattle.std.proofs.Common.{◌≡◌, ℕ, List, length, map, sum_by, sym, ap, subst, ◌∙◌, arith}
use Rattle.std.specs.List.{AllByRecursion}
use Rattle.item_shares.specs.declared.item.Item.{Item}
use Rattle.blob_model.specs.Parts.{embedded, own_lengths}
use Rattle.segment_assembly.specs.Assembly.{bytes_at}
use Rattle.transport_plan.specs.Spans.{piece_spans}
use Rattle.store_laws.specs.NewItems.{inline_items, memory_items}
use Rattle.blob_store.specs.NewItems.{span_length, IsSpanIn}
use Rattle.blob_store.specs.Putting.{ArePut}
use Rattle.blob_store.proofs.OwnPieces.{inline_brought, spans_few, spans_inside, spans_sum}
use Rattle.blob_store.proofs.building.own.put_inline.Goals as goal

pub put_memory-requires-clause-few : goal.put_memory-requires-clause-few
put_memory-requires-clause-few c =
    let spans : c.as_slice-3.result.now ≡ piece_spans c.args.page 0 (own_lengths c.args.parts.now) =
    c.as_slice-3.ensures ∙ c.in_ok-spans.ensures ∙ ap (piece_spans c.args.page 0) (c.as_slice.ensures ∙ c.in_ok-lengths.ensures) in
    let many = ap (λ (list : List (ℕ × ℕ)). length list) spans ∙ spans_few c.args.page c.args.parts.now in
    omega (arith, many, c.requires.few)

pub put_memory-requires-clause-inside : goal.put_memory-requires-clause-inside
put_memory-requires-clause-inside c =
    let spans : c.as_slice-3.result.now ≡ piece_spans c.args.page 0 (own_lengths c.args.parts.now) =
    c.as_slice-3.ensures ∙ c.in_ok-spans.ensures ∙ ap (piece_spans c.args.page 0) (c.as_slice.ensures ∙ c.in_ok-lengths.ensures) in
    let long : length c.as_slice-2.result.now ≡ length (embedded c.args.parts.now) =
    ap (λ (bytes : List ℕ). length bytes) (c.as_slice-2.ensures ∙ c.in_ok-bytes.ensures) in
    subst (AllByRecursion (IsSpanIn (length c.as_slice-2.result.now))) (sym spans)
    (spans_inside c.args.page c.args.parts.now (length c.as_slice-2.result.now) c.requires.page (omega (arith, long, c.requires.told)))

pub put_memory-requires-clause-fits : goal.put_memory-requires-clause-fits
put_memory-requires-clause-fits c =
    let spans : c.as_slice-3.result.now ≡ piece_spans c.args.page 0 (own_lengths c.args.parts.now) =
    c.as_slice-3.ensures ∙ c.in_ok-spans.ensures ∙ ap (piece_spans c.args.page 0) (c.as_slice.ensures ∙ c.in_ok-lengths.ensures) in
    let all = ap (λ (list : List (ℕ × ℕ)). sum_by span_length list) spans ∙ spans_sum c.args.page c.args.parts.now c.requires.page in
    omega (arith, all, c.requires.fits)

pub returns-clause-brought : goal.returns-clause-brought
returns-clause-brought c =
    let spans : c.as_slice-3.result.now ≡ piece_spans c.args.page 0 (own_lengths c.args.parts.now) =
    c.as_slice-3.ensures ∙ c.in_ok-spans.ensures ∙ ap (piece_spans c.args.page 0) (c.as_slice.ensures ∙ c.in_ok-lengths.ensures) in
    let same : memory_items c.args.first (map (bytes_at c.as_slice-2.result.now) c.as_slice-3.result.now)
    ≡ inline_items c.args.page c.args.first c.args.parts.now =
    ap (λ (bytes : List ℕ). memory_items c.args.first (map (bytes_at bytes) c.as_slice-3.result.now)) (c.as_slice-2.ensures ∙ c.in_ok-bytes.ensures)
    ∙ ap (λ (list : List (ℕ × ℕ)). memory_items c.args.first (map (bytes_at (embedded c.args.parts.now)) list)) spans in
    inline_brought c.args.page c.args.parts.now c.args.first c.args.shares.now c.put_memory.new.shares c.in_ok-views.views c.requires.page c.requires.told
    (subst (λ (items : List Item). ArePut c.args.shares.now items c.in_ok-views.views c.put_memory.new.shares) same c.in_ok-views.ensures)
