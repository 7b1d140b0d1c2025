-- One more piece leaves the order of use.
use Rattle.std.proofs.Common.{ℕ, List, ap, get_or, take, ◌∙◌}
use Rattle.recent_items.specs.Recent.{without}
use Rattle.blob_model.specs.Pages.{numbers}
use Rattle.store_laws.specs.LateJobs.{without_all}
use Rattle.blob_store.proofs.PageJobs.{leave_next, none_left, numbers_more}
use Rattle.blob_store.proofs.settle.page_jobs.leave_all.Goals as goal

pub loop-piece-init : goal.loop-piece-init
loop-piece-init c = none_left c.args.recent.now

pub loop-piece-preserved : goal.loop-piece-preserved
loop-piece-preserved c =
    let pieces = c.args.pieces.now in
    let i = c.loop-piece.piece-index in
    let number = (get_or pieces i (record { 0 = 0 })).0 in
    c.leave.ensures ∙ ap (without number) c.loop-piece.invariant ∙ leave_next (numbers (take i pieces)) number c.args.recent.now
    ∙ ap (λ (gone : List ℕ). without_all gone c.args.recent.now) (numbers_more pieces i (record { 0 = 0 }) c.loop-piece-test.true)
