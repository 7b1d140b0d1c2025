-- The pieces of the next that ended are used after those before it.
use Rattle.std.proofs.Common.{◌∙◌}
use Rattle.blob_store.proofs.Using.{used_next}
use Rattle.blob_store.proofs.parts.Parts.enter_done.Goals as goal

pub loop-end-preserved : goal.loop-end-preserved
loop-end-preserved c = (
  c.in_ok-enter_end.ensures.enters,
  c.in_ok-enter_end.ensures.used
      ∙ used_next c.args.self.now c.loop-end.self c.args.ended.now c.loop-end.end-index c.end-item.result c.loop-end-test.true c.end-item.is
      c.loop-end.invariant.1,
)
