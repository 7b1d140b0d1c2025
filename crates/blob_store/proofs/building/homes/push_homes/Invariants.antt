use Rattle.std.proofs.Common.{◌≡◌, ◌++◌, map, take}
use Rattle.blob_store.specs.Laying.{slot_of}
use Rattle.blob_store.proofs.building.homes.push_homes.Given as goal

abbrev pub invariant-loop-view : goal.invariant-loop-view
invariant-loop-view l = l.homes ≡ l.fn.homes ++ map slot_of (take l.view-index l.views)
