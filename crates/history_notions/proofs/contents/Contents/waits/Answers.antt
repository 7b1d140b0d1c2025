-- Who waits, by the history.
use Rattle.std.proofs.Common.{◌≡◌, List, subst, ◌∙◌}
use Rattle.std.specs.Prelude.{filter}
use Rattle.blob_model.specs.Builds.{Build}
use Rattle.history_notions.specs.Chosen.{items_at}
use Rattle.history_notions.specs.Missing.{is_waiting_in}
use Rattle.history_notions.proofs.Lifted.{waits_follow}
use Rattle.history_notions.proofs.contents.Contents.waits.Goals as goal

pub returns : goal.returns
returns c = λ s h follows.
    subst
    (λ (blobs : List Build). items_at blobs c.in_ok-places.places ≡ filter (is_waiting_in c.args.self.now.kept.endings c.args.self.now.kept.granted) blobs)
    c.as_slice-builds.ensures c.in_ok-places.ensures
    ∙ waits_follow s h c.args.self.now follows
