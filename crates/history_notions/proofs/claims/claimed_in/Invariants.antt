use Rattle.std.proofs.Common.{◌≡◌, take}
use Rattle.history_notions.specs.Slots.{claimed_in}
use Rattle.history_notions.proofs.claims.claimed_in.Given as goal

abbrev pub invariant-loop-build : goal.invariant-loop-build
invariant-loop-build l = l.found ≡ claimed_in (take l.build-index l.builds)
