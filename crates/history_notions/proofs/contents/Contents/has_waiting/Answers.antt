-- A blob waits where one passes the test.
use Rattle.std.proofs.Common.{◌≡◌, ℕ, List, length, ap, ◌∙◌}
use Rattle.std.specs.Prelude.{nat_lt}
use Rattle.std.specs.List.{list_any}
use Rattle.blob_model.specs.Builds.{Build}
use Rattle.history_notions.specs.Missing.{is_waiting_in}
use Rattle.history_notions.proofs.Lifted.{waits_follow}
use Rattle.history_notions.proofs.Planning.{any_count}
use Rattle.history_notions.proofs.contents.Contents.has_waiting.Goals as goal

pub returns : goal.returns
returns c = λ s h follows.
    let test = is_waiting_in c.args.self.now.kept.endings c.args.self.now.kept.granted in
    c.is_waited.ensures
    ∙ ap (list_any test) c.as_slice-blobs.ensures
    ∙ any_count test c.args.self.now.builds
    ∙ ap (λ (list : List Build). nat_lt 0 (length list)) (waits_follow s h c.args.self.now follows)
