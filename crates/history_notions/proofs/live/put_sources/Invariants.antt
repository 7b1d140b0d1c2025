use Rattle.std.proofs.Common.{◌≡◌, ◌++◌, take}
use Rattle.blob_model.specs.Parts.{sources}
use Rattle.history_notions.proofs.live.put_sources.Given as goal

abbrev pub invariant-loop-part : goal.invariant-loop-part
invariant-loop-part l = l.names ≡ l.initial.names ++ sources (take l.part-index l.parts)
