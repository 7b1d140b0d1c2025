use Rattle.std.proofs.Common.{◌≡◌, take, drop}
use Rattle.std.specs.Prelude.{fold}
use Rattle.data_handles.specs.Boxes.{of_table}
use Rattle.data_handles.specs.contracts.boxed.BoxedDataHandle.TheImpl.{seen-value}
use Rattle.store_laws.specs.Releasing.{released_by, AreReleasable}
use Rattle.blob_store.proofs.freed.release.Given as goal

abbrev pub invariant-loop-item : goal.invariant-loop-item
invariant-loop-item g l =
    (of_table (seen-value (g.dyn-1.0, g.dyn-1.1)).it l.handles
    ≡ fold released_by (of_table (seen-value (g.dyn-1.0, g.dyn-1.1)).it l.fn.handles) (take l.item-index l.freed))
    × AreReleasable (of_table (seen-value (g.dyn-1.0, g.dyn-1.1)).it l.handles) (drop l.item-index l.freed)
