use Rattle.std.proofs.Common.{drop}
use Rattle.blob_store.proofs.Unpinning.{Unpins}
use Rattle.blob_store.proofs.parts.Parts.unpin.Given as goal

abbrev pub invariant-loop-slot : goal.invariant-loop-slot
invariant-loop-slot l = Unpins l.fn.self (drop l.slot-index l.slots) l.self
