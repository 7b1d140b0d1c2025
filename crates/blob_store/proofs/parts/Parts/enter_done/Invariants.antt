use Rattle.std.proofs.Common.{◌≡◌, take}
use Rattle.std.specs.Prelude.{flat_map}
use Rattle.blob_store.specs.Passing.{pieces_done, with_used, CanEnter}
use Rattle.blob_store.proofs.parts.Parts.enter_done.Given as goal

abbrev pub invariant-loop-end : goal.invariant-loop-end
invariant-loop-end l = CanEnter l.self × (l.self ≡ with_used (flat_map (pieces_done l.fn.self) (take l.end-index l.ended)) l.fn.self)
