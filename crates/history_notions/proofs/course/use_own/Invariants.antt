use Rattle.std.proofs.Common.{◌≡◌, map}
use Rattle.std.specs.List.{range_with_len}
use Rattle.history_notions.specs.Runs.{cell_at}
use Rattle.history_notions.specs.Uses.{use_cells}
use Rattle.history_notions.specs.declared.run.Source.TheVariants as kinds
use Rattle.history_notions.proofs.course.use_own.Given as goal

abbrev pub invariant-loop-k : goal.invariant-loop-k
invariant-loop-k l = l.uses.items ≡ use_cells l.pages l.builds l.list l.initial.uses.items (map (cell_at (kinds.Sent l.blob)) (range_with_len l.from l.k))
