-- Nothing is recorded of a file by the history.
use Rattle.std.proofs.Common.{◌∙◌}
use Rattle.blob_model.specs.Construct.{is_unrecorded}
use Rattle.history_notions.specs.Planned.{is_unrecorded_in}
use Rattle.history_notions.proofs.Planning.{any_alike, unrecorded_same}
use Rattle.history_notions.proofs.contents.Contents.lacks_file.Goals as goal

pub returns : goal.returns
returns c = λ s h follows.
    c.is_some_unrecorded.ensures
    ∙ any_alike (is_unrecorded_in c.args.self.now) (is_unrecorded h) c.args.parts.now (unrecorded_same s h c.args.self.now follows)
