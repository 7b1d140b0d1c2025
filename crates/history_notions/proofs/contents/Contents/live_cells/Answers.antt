-- Those of the live blobs that aren't broken.
use Rattle.std.proofs.Common.{ℕ, List, ap, ◌∙◌}
use Rattle.std.specs.Prelude.{map, filter}
use Rattle.blob_model.specs.Builds.{Build}
use Rattle.history_notions.specs.Chosen.{items_at}
use Rattle.history_notions.specs.Reach.{is_whole}
use Rattle.history_notions.proofs.Lifted.{cells_follow}
use Rattle.history_notions.proofs.contents.Contents.live_cells.Goals as goal

pub returns : goal.returns
returns c = λ s h follows.
    let items : List Build = c.args.self.now.builds in
    ap (λ (places : List ℕ). map (λ (build : Build). build.cells) (items_at items places))
    (c.in_ok-found.ensures
    ∙ ap (λ (blobs : List Build). filter (is_whole blobs c.args.self.now.kept.endings) c.as_slice.result.now) c.as_slice-builds.ensures
    ∙ ap (filter (is_whole items c.args.self.now.kept.endings)) c.as_slice.ensures)
    ∙ cells_follow s h c.args.self.now c.in_ok-places.places follows (c.in_ok-places.ensures s h follows)
