use Rattle.transcript_audit.specs.Cells.{fails_in}
use Rattle.transcript_audit.proofs.GoodCells.{AreGood}
use Rattle.transcript_audit.proofs.failing.good_count.Given as goal

abbrev pub invariant-loop-place : goal.invariant-loop-place
invariant-loop-place l = AreGood (fails_in l.notes) l.cells l.place
