-- The faults of the history's cells.
use Rattle.std.proofs.Common.{◌∙◌}
use Rattle.transcript_audit.proofs.CellReads.{faults_any}
use Rattle.transcript_audit.proofs.step.is_fault_of.Goals as goal

pub returns : goal.returns
returns c = λ s h follows. c.is_fault.ensures ∙ faults_any s h c.args.contents.now follows c.args.q c.args.answer.now c.args.cells.now
