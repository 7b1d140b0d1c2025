use Rattle.std.proofs.Common.{◌≡◌, take}
use Rattle.blob_model.specs.Parts.{embedded}
use Rattle.blob_store.proofs.building.own.embedded.Given as goal

abbrev pub invariant-loop-part : goal.invariant-loop-part
invariant-loop-part l = l.all ≡ embedded (take l.part-index l.parts)
