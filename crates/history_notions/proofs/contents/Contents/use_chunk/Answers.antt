-- The chunk of the open reader uses its pieces.
use Rattle.std.proofs.Common.{◌≡◌, ℕ, List, ap, ◌∙◌}
use Rattle.blob_model.specs.Builds.{Cell}
use Rattle.blob_model.specs.Pieces.{Piece}
use Rattle.blob_model.specs.Pages.{Page}
use Rattle.history_notions.specs.Runs.{cells_of_runs}
use Rattle.history_notions.specs.Uses.{use_cells}
use Rattle.history_notions.proofs.Using.{chunk_uses}
use Rattle.history_notions.proofs.contents.Contents.use_chunk.Goals as goal

pub returns : goal.returns
returns c = λ s h follows.
    let contents = c.args.self.now in
    let before : List ℕ = c.args.uses.now.items in
    let cells : List Cell = cells_of_runs c.as_slice.result.now in
    c.in_ok-use_runs.ensures
    ∙ ap (λ (pages : List Page). use_cells pages contents.builds c.as_slice-list.result.now before cells) c.as_slice-pages.ensures
    ∙ ap (λ (list : List Piece). use_cells contents.kept.pages contents.builds list before cells) c.as_slice-list.ensures
    ∙ chunk_uses s h contents c.in-Some.reader.now c.args.number before cells follows (c.in-Some.ensures s h follows)
    (ap cells_of_runs c.as_slice.ensures ∙ c.in_ok-runs.ensures s h follows)
