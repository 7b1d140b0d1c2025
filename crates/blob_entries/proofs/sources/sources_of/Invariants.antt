use Rattle.std.proofs.Common.{◌≡◌, take}
use Rattle.blob_entries.specs.Sources.{sources_of}
use Rattle.blob_entries.proofs.sources.sources_of.Given as goal

abbrev pub invariant-loop-step : goal.invariant-loop-step
invariant-loop-step l = l.out ≡ sources_of l.names (take l.step-index l.steps)
