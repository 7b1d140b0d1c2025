use Rattle.std.proofs.Common.{◌≡◌, ℕ, ◌*◌, ◌≤◌, ◌^◌, take}
use Rattle.blob_model.specs.Builds.{parts_weight}
use Rattle.history_notions.proofs.builds.parts_weight.Given as goal

abbrev pub invariant-loop-part : goal.invariant-loop-part
invariant-loop-part l = (l.total ≡ parts_weight l.page l.builds (take l.part-index l.parts)) × (l.total ≤ l.part-index * 2 ^ 64)
