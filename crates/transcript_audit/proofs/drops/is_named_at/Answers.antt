-- A blob at one of the places.
use Rattle.std.proofs.Common.{◌==◌, ◌∙◌}
use Rattle.blob_model.specs.Builds.{Build}
use Rattle.history_notions.proofs.Reaching.{any_at}
use Rattle.transcript_audit.proofs.drops.is_named_at.Goals as goal

pub returns : goal.returns
returns c = c.has_named.ensures ∙ any_at (λ (build : Build). build.name == c.args.name) c.args.builds.now c.args.places.now
