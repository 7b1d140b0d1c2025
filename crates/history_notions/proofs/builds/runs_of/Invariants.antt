use Rattle.std.proofs.Common.{◌≡◌, ℕ, ◌+◌, ◌<◌, ◌^◌, ◌++◌, drop}
use Rattle.blob_model.specs.Parts.{parts_length}
use Rattle.blob_model.specs.Builds.{cells_of}
use Rattle.history_notions.specs.Runs.{cells_of_runs}
use Rattle.history_notions.proofs.builds.runs_of.Given as goal

abbrev pub invariant-loop-part : goal.invariant-loop-part
invariant-loop-part l =
    (cells_of_runs l.found ++ cells_of l.builds l.name l.from (drop l.part-index l.parts) ≡ cells_of l.builds l.name 0 l.parts)
    × (l.from + parts_length (drop l.part-index l.parts) < 2 ^ 64)
