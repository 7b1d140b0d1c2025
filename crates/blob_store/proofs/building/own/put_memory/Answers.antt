-- One piece more.
use Rattle.std.proofs.Common.{◌≡◌, ℕ, ◌+◌, ◌-◌, List, [], ◌∷◌, ◌++◌, get_or, length, map, take, drop, sym, ap, ◌∙◌, subst, arith}
use Rattle.std.proofs.lemmas.List.{length-map, length-take-le, map_more}
use Rattle.std.proofs.lemmas.List.Sums.{sum_by_more}
use Rattle.blob_items.specs.Cells.{total}
use Rattle.item_shares.specs.declared.item.Item.{Item}
use Rattle.item_shares.specs.declared.item.Item.TheVariants.{Memory}
use Rattle.segment_assembly.specs.Assembly.{bytes_at}
use Rattle.store_laws.specs.PartLaws.{piece_no}
use Rattle.store_laws.specs.NewItems.{memory_items}
use Rattle.blob_store.specs.NewItems.{span_length, IsSpanIn}
use Rattle.blob_store.specs.Putting.{ArePut}
use Rattle.blob_store.proofs.Putting.{all_at, bytes_long, memory_join}
use Rattle.blob_store.proofs.building.own.put_memory.Goals as goal

pub loop-span-preserved : goal.loop-span-preserved
loop-span-preserved c =
    let spans = c.args.spans.now in
    let i = c.loop-span.span-index in
    let was = c.loop-span.invariant in
    let span : ℕ × ℕ = get_or spans i (0, 0) in
    let before : List (List ℕ) = map (bytes_at c.args.bytes.now) (take i spans) in
    let size : span.0 + span.1 - span.0 ≡ span.1 = omega arith in
    let piece : c.in_ok-bytes.bytes ≡ bytes_at c.args.bytes.now span =
    c.in_ok-bytes.ensures ∙ ap (λ (n : ℕ). take n (drop span.0 c.args.bytes.now)) size in
    let many : length before ≡ i =
    length-map (take i spans) (bytes_at c.args.bytes.now) ∙ length-take-le i spans (omega (arith, c.loop-span-test.true)) in
    let number : c.args.first + length before ≡ c.loop-span.number = omega (arith, many, was.next) in
    let grown : memory_items c.args.first (map (bytes_at c.args.bytes.now) (take (i + 1) spans))
    ≡ memory_items c.args.first before ++ Memory (piece_no c.loop-span.number) c.in_ok-bytes.bytes ∷ [] =
    ap (memory_items c.args.first) (map_more (bytes_at c.args.bytes.now) spans i (0, 0) c.loop-span-test.true)
    ∙ memory_join c.args.first before (bytes_at c.args.bytes.now span ∷ [])
    ∙ ap (λ (n : ℕ). memory_items c.args.first before ++ Memory (piece_no n) (bytes_at c.args.bytes.now span) ∷ []) number
    ∙ ap (λ (bytes : List ℕ). memory_items c.args.first before ++ Memory (piece_no c.loop-span.number) bytes ∷ []) (sym piece) in
    let inside : IsSpanIn (length c.args.bytes.now) span =
    all_at (IsSpanIn (length c.args.bytes.now)) spans i (0, 0) c.loop-span-test.true c.requires.inside in
    let long : length c.in_ok-bytes.bytes ≡ span.1 = ap (λ (bytes : List ℕ). length bytes) piece ∙ bytes_long c.args.bytes.now span inside.1 in
    let more : total c.put_item.new.views ≡ total c.loop-span.views + length c.in_ok-bytes.bytes = c.in_ok-put_item.ensures.total in
    record {
      put = subst (λ (items : List Item). ArePut c.args.shares.now items c.put_item.new.views c.put_item.new.shares) (sym grown)
          (c.in_ok-put_item.ensures.puts c.args.shares.now (memory_items c.args.first before) was.put);
      next = omega (arith, was.next);
      fits = omega (arith, more, was.fits, long, sum_by_more span_length spans i (0, 0) c.loop-span-test.true);
    }
