-- A source is lost by the history.
use Rattle.std.proofs.Common.{◌≡◌, ℕ, List, ap, ◌∙◌}
use Rattle.std.specs.List.{list_any}
use Rattle.blob_model.specs.Construct.{is_lost_source}
use Rattle.blob_model.specs.Parts.{sources}
use Rattle.history_notions.specs.Planned.{is_lost_in}
use Rattle.history_notions.proofs.Planning.{any_alike, lost_same}
use Rattle.history_notions.proofs.contents.Contents.lacks_source.Goals as goal

pub returns : goal.returns
returns c = λ s h follows.
    c.is_some_lost-lacks.ensures
    ∙ ap (list_any (is_lost_in c.args.self.now c.args.renderer)) (c.as_slice.ensures ∙ c.in_ok-names.ensures)
    ∙ any_alike (is_lost_in c.args.self.now c.args.renderer) (is_lost_source h c.args.renderer) (sources c.args.parts.now)
    (lost_same s h c.args.self.now follows c.args.renderer)
