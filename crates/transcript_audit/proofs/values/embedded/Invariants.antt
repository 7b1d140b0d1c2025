use Rattle.std.proofs.Common.{◌≡◌, take}
use Rattle.blob_model.specs.Parts.{embedded}
use Rattle.transcript_audit.proofs.values.embedded.Given as goal

abbrev pub invariant-loop-part : goal.invariant-loop-part
invariant-loop-part l = l.found ≡ embedded (take l.part-index l.parts)
