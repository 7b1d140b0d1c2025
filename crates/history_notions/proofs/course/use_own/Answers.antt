-- One own byte more uses its piece.
use Rattle.std.proofs.Common.{◌≡◌, ℕ, ◌+◌, List, sym, ap, ◌∙◌, arith}
use Rattle.blob_model.specs.Builds.{sent}
use Rattle.history_notions.specs.Uses.{use_cell}
use Rattle.history_notions.specs.declared.run.Source.TheVariants as kinds
use Rattle.history_notions.proofs.Using.{index_more}
use Rattle.history_notions.proofs.course.use_own.Goals as goal

pub loop-k-preserved : goal.loop-k-preserved
loop-k-preserved c =
    let place : c.from.result ≡ c.loop-k.k = omega arith in
    c.in_ok-use_index.ensures
    ∙ ap (λ (k : ℕ). use_cell c.args.pages.now c.args.builds.now c.args.list.now c.loop-k.uses.items (sent c.args.blob (c.args.from + k))) place
    ∙ ap (λ (before : List ℕ). use_cell c.args.pages.now c.args.builds.now c.args.list.now before (sent c.args.blob (c.args.from + c.loop-k.k)))
    c.loop-k.invariant
    ∙ sym (index_more c.args.pages.now c.args.builds.now c.args.list.now c.args.uses.now.items (kinds.Sent c.args.blob) c.args.from c.loop-k.k)
