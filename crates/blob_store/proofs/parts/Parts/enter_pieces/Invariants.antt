use Rattle.std.proofs.Common.{◌≡◌}
use Rattle.std.specs.List.{range_with_len}
use Rattle.blob_store.specs.Passing.{with_used, CanEnter}
use Rattle.blob_store.proofs.parts.Parts.enter_pieces.Given as goal

abbrev pub invariant-loop-done : goal.invariant-loop-done
invariant-loop-done l = CanEnter l.self × (l.self ≡ with_used (range_with_len l.first l.done) l.fn.self)
