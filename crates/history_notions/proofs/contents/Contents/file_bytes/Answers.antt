-- The page files that hold pieces have the bytes that those of the history have.
use Rattle.std.proofs.Common.{◌≡◌, List, sum_by, ap, ◌∙◌}
use Rattle.std.specs.Prelude.{filter}
use Rattle.blob_model.specs.Builds.{Build, builds}
use Rattle.blob_model.specs.Tally.{files_of}
use Rattle.blob_model.specs.Pieces.{Piece, pieces}
use Rattle.blob_model.specs.Pages.{Page, page_size}
use Rattle.blob_model.specs.Session.{page_limit}
use Rattle.history_notions.specs.Placed.{holds_some}
use Rattle.history_notions.proofs.Lifted.{files_follow}
use Rattle.history_notions.proofs.contents.Contents.file_bytes.Goals as goal

pub returns : goal.returns
returns c = λ s h follows.
    let list = c.args.list.now in
    let written : List Page = c.args.self.now.kept.pages in
    let blobs : List Build = c.args.self.now.builds in
    c.in_ok-bytes.ensures
    ∙ ap (λ (all : List Piece). sum_by (page_size all) (filter (holds_some c.as_slice-pages.result.now blobs list)
    c.as_slice-pages.result.now)) c.as_slice-all.ensures
    ∙ ap (λ (pages : List Page). sum_by (page_size c.args.self.now.pieces) (filter (holds_some pages blobs list) pages))
    c.as_slice-pages.ensures
    ∙ ap (sum_by (page_size c.args.self.now.pieces)) (files_follow s h c.args.self.now list follows)
    ∙ ap (λ (all : List Piece). sum_by (page_size all) (files_of h (builds (page_limit s) h) list)) follows.pieces_are
