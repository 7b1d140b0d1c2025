use Rattle.std.proofs.Common.{◌≡◌, ℕ, ◌++◌, take, drop}
use Rattle.history_notions.specs.Runs.{cells_of_runs}
use Rattle.history_notions.proofs.runs.put_slice.Given as goal

abbrev pub invariant-loop-run : goal.invariant-loop-run
invariant-loop-run l =
    cells_of_runs l.found ++ take l.left (drop l.skip (cells_of_runs (drop l.run-index l.runs)))
    ≡ cells_of_runs l.initial.found ++ take l.len (drop l.off (cells_of_runs l.runs))
