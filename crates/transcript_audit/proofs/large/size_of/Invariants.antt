use Rattle.std.proofs.Common.{◌≡◌, take, sum_by}
use Rattle.blob_model.specs.Builds.{size}
use Rattle.transcript_audit.proofs.large.size_of.Given as goal

abbrev pub invariant-loop-build : goal.invariant-loop-build
invariant-loop-build l = l.total ≡ sum_by size (take l.build-index l.builds)
