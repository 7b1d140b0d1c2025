use Rattle.std.proofs.Common.{◌≡◌, take}
use Rattle.history_notions.specs.Runs.{cells_of_runs}
use Rattle.history_notions.specs.Uses.{use_cells}
use Rattle.history_notions.proofs.course.use_runs.Given as goal

abbrev pub invariant-loop-run : goal.invariant-loop-run
invariant-loop-run l = l.uses.items ≡ use_cells l.pages l.builds l.list l.initial.uses.items (cells_of_runs (take l.run-index l.runs))
