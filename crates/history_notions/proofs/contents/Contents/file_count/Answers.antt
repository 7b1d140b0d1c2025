-- The page files that hold pieces are as many as those of the history.
use Rattle.std.proofs.Common.{◌≡◌, List, length, ap, ◌∙◌}
use Rattle.std.specs.Prelude.{filter}
use Rattle.blob_model.specs.Pages.{Page}
use Rattle.history_notions.specs.Placed.{holds_some}
use Rattle.history_notions.proofs.Lifted.{files_follow}
use Rattle.history_notions.proofs.contents.Contents.file_count.Goals as goal

pub returns : goal.returns
returns c = λ s h follows.
    let list = c.args.list.now in
    c.in_ok-count.ensures
    ∙ ap (λ (pages : List Page). length (filter (holds_some pages c.args.self.now.builds list) pages)) c.as_slice-pages.ensures
    ∙ ap (length {A = Page}) (files_follow s h c.args.self.now list follows)
