-- The chunk of the history's blobs and limits.
use Rattle.std.proofs.Common.{◌≡◌, ℕ, List, ap, ◌∙◌}
use Rattle.blob_words.specs.declared.limits.Limits.{Limits}
use Rattle.blob_model.specs.Builds.{Build, builds}
use Rattle.blob_model.specs.Session.{page_limit}
use Rattle.history_notions.specs.Uses.{chunk_in}
use Rattle.history_notions.proofs.contents.Contents.chunk.Goals as goal

pub returns : goal.returns
returns c = λ s h follows.
    c.in_ok-runs.ensures
    ∙ ap (λ (blobs : List Build). chunk_in c.args.self.now.limits.chunk blobs c.args.reader.now) (c.as_slice-blobs.ensures ∙ follows.builds_are)
    ∙ ap (λ (limits : Limits). chunk_in limits.chunk (builds (page_limit s) h) c.args.reader.now) follows.limits_are
