use Rattle.data_handles.specs.Boxes.{of_table}
use Rattle.data_handles.specs.contracts.boxed.BoxedDataHandle.TheImpl.{seen-value}
use Rattle.blob_store.proofs.Slots.{ToldFrom}
use Rattle.blob_store.proofs.deciding.slots.slot_refusal.Given as goal

abbrev pub invariant-loop-i : goal.invariant-loop-i
invariant-loop-i g l = ToldFrom (of_table (seen-value (g.dyn-1.0, g.dyn-1.1)).it l.handles) l.slots l.i
