-- Of all pieces those that are reached.
use Rattle.std.proofs.Common.{ℕ, List, ap, ◌∙◌}
use Rattle.std.specs.Prelude.{filter}
use Rattle.blob_model.specs.Builds.{Build}
use Rattle.history_notions.specs.Reach.{is_reached_in}
use Rattle.history_notions.proofs.Lifted.{reached_follow}
use Rattle.history_notions.proofs.contents.Contents.reached.Goals as goal

pub returns : goal.returns
returns c = λ s h follows.
    let items : List Build = c.args.self.now.builds in
    let granted : List ℕ = c.args.self.now.kept.granted in
    c.in_ok-found.ensures
    ∙ ap (λ (places : List ℕ). filter (is_reached_in granted items places) c.as_slice-pieces.result.now) c.as_slice.ensures
    ∙ ap (filter (is_reached_in granted items c.in_ok-places.places)) c.as_slice-pieces.ensures
    ∙ reached_follow s h c.args.self.now c.in_ok-places.places follows (c.in_ok-places.ensures s h follows)
