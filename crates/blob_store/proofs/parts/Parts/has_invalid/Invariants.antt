use Rattle.std.proofs.Common.{◌≡◌, false, take}
use Rattle.std.specs.List.{list_any, AllByRecursion}
use Rattle.data_handles.specs.Boxes.{of_table}
use Rattle.data_handles.specs.contracts.boxed.BoxedDataHandle.TheImpl.{seen-value}
use Rattle.store_laws.specs.Deciding.{is_invalid_in}
use Rattle.blob_store.specs.Adding.{EndsWithin}
use Rattle.blob_store.specs.Seen.{parts_of}
use Rattle.blob_store.proofs.parts.Parts.has_invalid.Given as goal

abbrev pub invariant-loop-part : goal.invariant-loop-part
invariant-loop-part g l = record {
  none : list_any (is_invalid_in (parts_of l.self) (of_table (seen-value (g.dyn-1.0, g.dyn-1.1)).it l.handles) l.renderer.0 l.name)
      (take l.part-index l.parts) ≡ false;
  ends : AllByRecursion EndsWithin (take l.part-index l.parts);
}
