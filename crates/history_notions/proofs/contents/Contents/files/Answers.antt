-- The page files that hold pieces are those of the history.
use Rattle.std.proofs.Common.{◌≡◌, List, ap, subst, ◌∙◌}
use Rattle.std.specs.Prelude.{filter}
use Rattle.blob_model.specs.Pages.{Page}
use Rattle.history_notions.specs.Chosen.{items_at}
use Rattle.history_notions.specs.Placed.{holds_some}
use Rattle.history_notions.proofs.Lifted.{files_follow}
use Rattle.history_notions.proofs.contents.Contents.files.Goals as goal

pub returns : goal.returns
returns c = λ s h follows.
    subst (λ (pages : List Page). items_at pages c.in_ok-places.places ≡ filter (holds_some pages c.args.self.now.builds c.args.list.now) pages)
    c.as_slice-pages.ensures
    c.in_ok-places.ensures
    ∙ files_follow s h c.args.self.now c.args.list.now follows
