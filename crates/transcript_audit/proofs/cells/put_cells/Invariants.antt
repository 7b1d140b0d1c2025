use Rattle.std.proofs.Common.{◌≡◌, ◌++◌, map}
use Rattle.std.specs.List.{range_with_len}
use Rattle.history_notions.specs.Runs.{cell_at}
use Rattle.transcript_audit.specs.Cells.{cell_of}
use Rattle.transcript_audit.proofs.cells.put_cells.Given as goal

abbrev pub invariant-loop-k : goal.invariant-loop-k
invariant-loop-k l = map cell_of l.found ≡ map cell_of l.initial.found ++ map (cell_at l.source) (range_with_len l.from l.k)
