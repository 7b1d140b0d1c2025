use Rattle.std.proofs.Common.{◌≡◌, take}
use Rattle.blob_entries.specs.Holdings.{fixed_views}
use Rattle.blob_entries.proofs.held.fixed.Given as goal

abbrev pub invariant-loop-step : goal.invariant-loop-step
invariant-loop-step l = l.out.items ≡ fixed_views (take l.step-index l.steps)
