use Rattle.std.proofs.Common.{◌≡◌, take, sum_by}
use Rattle.blob_model.specs.Builds.{Build}
use Rattle.history_notions.proofs.claims.weight_of.Given as goal

abbrev pub invariant-loop-build : goal.invariant-loop-build
invariant-loop-build l = l.total ≡ sum_by (λ (build : Build). build.weight) (take l.build-index l.builds)
