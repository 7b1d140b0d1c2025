use Rattle.data_handles.specs.Boxes.{of_table}
use Rattle.data_handles.specs.contracts.boxed.BoxedDataHandle.TheImpl.{seen-value}
use Rattle.blob_store.proofs.LettingGo.{LetGoTo}
use Rattle.blob_store.proofs.freed.release_claimed.Given as goal

abbrev pub invariant-loop-k : goal.invariant-loop-k
invariant-loop-k g l =
    LetGoTo l.k (of_table (seen-value (g.dyn-1.0, g.dyn-1.1)).it l.fn.handles) (of_table (seen-value (g.dyn-1.0, g.dyn-1.1)).it l.handles)
