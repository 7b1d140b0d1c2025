use Rattle.blob_store.proofs.Claiming.{free_at}
use Rattle.data_handles.specs.Boxes.{of_table}
use Rattle.data_handles.specs.contracts.boxed.BoxedDataHandle.TheImpl.{seen-value}
use Rattle.blob_store.proofs.building.claiming.claim_all.Goals as goal

pub claim_one-requires : goal.claim_one-requires
claim_one-requires g c =
    (free_at c.args.is_broken (of_table (seen-value (g.dyn-1.0, g.dyn-1.1)).it c.loop-part.handles) c.args.parts.now c.loop-part.part-index
    c.part-item.result c.loop-part.invariant.free c.loop-part-test.true c.part-item.is).0
