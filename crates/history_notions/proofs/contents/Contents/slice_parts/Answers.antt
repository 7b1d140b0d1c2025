-- The slice of the history's blobs.
use Rattle.std.proofs.Common.{List, ap, ◌∙◌}
use Rattle.blob_model.specs.Builds.{Build, slice_parts}
use Rattle.history_notions.proofs.contents.Contents.slice_parts.Goals as goal

pub returns : goal.returns
returns c = λ s h follows.
    c.in_ok-parts.ensures
    ∙ ap (λ (blobs : List Build). slice_parts blobs c.args.source c.args.start c.args.end) (c.as_slice-blobs.ensures ∙ follows.builds_are)
