use Rattle.std.proofs.Common.{◌≡◌, take, map}
use Rattle.history_notions.specs.Runs.{cells_of_runs}
use Rattle.transcript_audit.specs.Cells.{cell_of}
use Rattle.transcript_audit.proofs.cells.cells_of.Given as goal

abbrev pub invariant-loop-run : goal.invariant-loop-run
invariant-loop-run l = map cell_of l.found ≡ cells_of_runs (take l.run-index l.runs)
