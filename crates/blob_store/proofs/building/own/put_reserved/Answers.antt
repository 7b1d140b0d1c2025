-- One piece more.
use Rattle.std.proofs.Common.{◌≡◌, ℕ, ◌+◌, List, [], ◌∷◌, ◌++◌, get_or, length, map, take, sym, ap, ◌∙◌, subst, arith}
use Rattle.std.proofs.lemmas.List.{length-map, length-take-le, map_more}
use Rattle.std.proofs.lemmas.List.Sums.{sum_by_more}
use Rattle.blob_items.specs.Cells.{total}
use Rattle.item_shares.specs.declared.item.Item.{Item}
use Rattle.item_shares.specs.declared.item.Item.TheVariants.{Reserved}
use Rattle.store_laws.specs.PartLaws.{piece_no}
use Rattle.store_laws.specs.NewItems.{reserved_items}
use Rattle.blob_store.specs.NewItems.{span_length}
use Rattle.blob_store.specs.Putting.{ArePut}
use Rattle.blob_store.proofs.Putting.{reserved_join}
use Rattle.blob_store.proofs.building.own.put_reserved.Goals as goal

pub loop-span-preserved : goal.loop-span-preserved
loop-span-preserved c =
    let spans = c.args.spans.now in
    let i = c.loop-span.span-index in
    let was = c.loop-span.invariant in
    let span : ℕ × ℕ = get_or spans i (0, 0) in
    let before : List ℕ = map span_length (take i spans) in
    let many : length before ≡ i = length-map (take i spans) span_length ∙ length-take-le i spans (omega (arith, c.loop-span-test.true)) in
    let number : c.args.first + length before ≡ c.loop-span.number = omega (arith, many, was.next) in
    let grown : reserved_items c.args.first (map span_length (take (i + 1) spans))
    ≡ reserved_items c.args.first before ++ Reserved (piece_no c.loop-span.number) span.1 ∷ [] =
    ap (reserved_items c.args.first) (map_more span_length spans i (0, 0) c.loop-span-test.true)
    ∙ reserved_join c.args.first before (span.1 ∷ [])
    ∙ ap (λ (n : ℕ). reserved_items c.args.first before ++ Reserved (piece_no n) span.1 ∷ []) number in
    let more : total c.put_item.new.views ≡ total c.loop-span.views + span.1 = c.in_ok-put_item.ensures.total in
    record {
      put = subst (λ (items : List Item). ArePut c.args.shares.now items c.put_item.new.views c.put_item.new.shares) (sym grown)
          (c.in_ok-put_item.ensures.puts c.args.shares.now (reserved_items c.args.first before) was.put);
      next = omega (arith, was.next);
      fits = omega (arith, more, was.fits, sum_by_more span_length spans i (0, 0) c.loop-span-test.true);
    }
