use Rattle.std.proofs.Common.{◌≡◌, false, map, replicate, take}
use Rattle.blob_store.specs.Laying.{slot_of}
use Rattle.blob_store.proofs.building.laying.writing.Given as goal

abbrev pub invariant-loop-view : goal.invariant-loop-view
invariant-loop-view l = record {
  slots : l.slots ≡ map slot_of (take l.view-index l.views);
  came : l.came ≡ replicate l.view-index false;
}
