use Rattle.std.proofs.Common.{◌≡◌, ℕ, ◌+◌, ◌*◌, ◌≤◌, ◌^◌, length, take, drop}
use Rattle.history_notions.specs.Runs.{cells_of_runs}
use Rattle.history_notions.proofs.runs.run_total.Given as goal

abbrev pub invariant-loop-run : goal.invariant-loop-run
invariant-loop-run l = (l.total ≡ length (cells_of_runs (take l.run-index l.runs))) × (l.total ≤ l.run-index * 2 ^ 64)
