use Rattle.std.proofs.Common.{subst}
use Rattle.item_shares.specs.declared.item.Item.{Item}
use Rattle.data_handles.specs.Boxes.{of_table}
use Rattle.data_handles.specs.contracts.boxed.BoxedDataHandle.TheImpl.{seen-value}
use Rattle.store_laws.specs.Releasing.{CanRelease}
use Rattle.blob_store.proofs.Releasing.{releasable_at}
use Rattle.blob_store.proofs.freed.release.Goals as goal

pub release-requires-clause-claimed : goal.release-requires-clause-claimed
release-requires-clause-claimed g c =
    let table = of_table (seen-value (g.dyn-1.0, g.dyn-1.1)).it c.loop-item.handles in
    (subst (λ (item : Item). CanRelease table item) c.in-Range.is (releasable_at table c.args.freed.now c.loop-item.item-index c.item-item.result
    c.loop-item.invariant.1 c.loop-item-test.true c.item-item.is).0).0

pub release-requires-clause-held : goal.release-requires-clause-held
release-requires-clause-held g c =
    let table = of_table (seen-value (g.dyn-1.0, g.dyn-1.1)).it c.loop-item.handles in
    (subst (λ (item : Item). CanRelease table item) c.in-Range.is (releasable_at table c.args.freed.now c.loop-item.item-index c.item-item.result
    c.loop-item.invariant.1 c.loop-item-test.true c.item-item.is).0).1
