-- The range of one part more.
use Rattle.std.proofs.Common.{List, take, sym, ap, subst, arith}
use Rattle.std.proofs.lemmas.List.Sums.{sum_by_more}
use Rattle.item_shares.specs.declared.item.Item.{Item}
use Rattle.blob_model.specs.Parts.{part_length}
use Rattle.store_laws.specs.NewItems.{range_items}
use Rattle.blob_store.specs.Putting.{ArePut}
use Rattle.blob_store.proofs.Putting.{ranges_more}
use Rattle.blob_store.proofs.building.ranges.put_ranges.Goals as goal

pub loop-part-preserved : goal.loop-part-preserved
loop-part-preserved c =
    let parts = c.args.parts.now in
    let i = c.loop-part.part-index in
    let part = c.part-item.result in
    let was = c.loop-part.invariant in
    record {
      put = subst (λ (items : List Item). ArePut c.args.shares.now items c.put_range.new.views c.put_range.new.shares)
          (sym (ranges_more parts i part c.loop-part-test.true c.part-item.is))
          (c.in_ok-put_range.ensures.puts c.args.shares.now (range_items (take i parts)) was.put);
      few = omega (arith, was.few, c.in_ok-put_range.ensures.total, ap part_length c.part-item.is, sum_by_more part_length parts i part c.loop-part-test.true);
    }
