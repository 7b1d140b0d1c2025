-- One run more.
use Rattle.std.proofs.Common.{◌||◌, Bool, ap, ◌∙◌, arith}
use Rattle.std.specs.Prelude.{is_some}
use Rattle.std.specs.Ordering.{nat_cmp}
use Rattle.std.specs.BTreeMap as tree
use Rattle.history_notions.specs.Reach.{is_sent}
use Rattle.history_notions.proofs.Sending.{any_more}
use Rattle.history_notions.proofs.senders.note_runs.Goals as goal

pub loop-run-preserved : goal.loop-run-preserved
loop-run-preserved c = λ name.
    c.in_ok-note_run.ensures name
    ∙ ap (λ (b : Bool). b || is_sent name c.run-item.result) (c.loop-run.invariant name)
    ∙ any_more (is_sent name) c.args.runs.now c.loop-run.run-index c.run-item.result (is_some (tree.get nat_cmp c.args.names.now name)) (omega arith) c.run-item.is
