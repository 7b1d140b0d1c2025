-- A part is invalid by the history.
use Rattle.std.proofs.Common.{◌∙◌}
use Rattle.blob_model.specs.Construct.{is_invalid}
use Rattle.history_notions.specs.Planned.{is_invalid_in}
use Rattle.history_notions.proofs.Planning.{any_alike, invalid_same}
use Rattle.history_notions.proofs.contents.Contents.has_invalid.Goals as goal

pub returns : goal.returns
returns c = λ s h follows.
    c.is_some_invalid.ensures
    ∙ any_alike (is_invalid_in c.args.self.now c.args.renderer c.args.name) (is_invalid s h c.args.renderer c.args.name) c.args.parts.now
    (invalid_same s h c.args.self.now follows c.args.renderer c.args.name)
