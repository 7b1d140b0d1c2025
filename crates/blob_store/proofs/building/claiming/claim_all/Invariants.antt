use Rattle.std.proofs.Common.{◌≡◌, ◌&&◌, ℕ, true, not, take, drop}
use Rattle.std.specs.Prelude.{fold}
use Rattle.std.specs.List.{list_any}
use Rattle.data_handles.specs.Boxes.{of_table}
use Rattle.data_handles.specs.contracts.boxed.BoxedDataHandle.TheImpl.{seen-value}
use Rattle.store_laws.specs.Claiming.{claimed_by, is_ranged, AreFree}
use Rattle.blob_store.specs.Unheld.{HasObject}
use Rattle.blob_store.proofs.building.claiming.claim_all.Given as goal

abbrev pub invariant-loop-part : goal.invariant-loop-part
invariant-loop-part g l = record {
  claimed : of_table (seen-value (g.dyn-1.0, g.dyn-1.1)).it l.handles
      ≡ fold (claimed_by l.is_broken) (of_table (seen-value (g.dyn-1.0, g.dyn-1.1)).it l.fn.handles) (take l.part-index l.parts);
  free : AreFree l.is_broken (of_table (seen-value (g.dyn-1.0, g.dyn-1.1)).it l.handles) (drop l.part-index l.parts);
  keeps : (k : ℕ) → HasObject (of_table (seen-value (g.dyn-1.0, g.dyn-1.1)).it l.fn.handles) k
      → HasObject (of_table (seen-value (g.dyn-1.0, g.dyn-1.1)).it l.handles) k;
  has : (k : ℕ) → (not l.is_broken && list_any (is_ranged k) (take l.part-index l.parts)) ≡ true
      → HasObject (of_table (seen-value (g.dyn-1.0, g.dyn-1.1)).it l.handles) k;
}
