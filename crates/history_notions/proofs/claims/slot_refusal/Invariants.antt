use Rattle.std.proofs.Common.{◌≡◌, drop}
use Rattle.blob_model.specs.Choice.{first_that}
use Rattle.history_notions.specs.Slots.{slot_tests}
use Rattle.history_notions.proofs.claims.slot_refusal.Given as goal

abbrev pub invariant-loop-slot : goal.invariant-loop-slot
invariant-loop-slot l = first_that (slot_tests l.count l.taken (drop l.slot-index l.slots)) ≡ first_that (slot_tests l.count l.initial.taken l.slots)
