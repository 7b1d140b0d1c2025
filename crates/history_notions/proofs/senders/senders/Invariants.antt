use Rattle.std.proofs.Common.{◌≡◌, false, take}
use Rattle.std.specs.Prelude.{is_some}
use Rattle.std.specs.List.{list_any}
use Rattle.std.specs.Ordering.{nat_cmp}
use Rattle.std.specs.BTreeMap as tree
use Rattle.blob_model.specs.Pieces.{Piece}
use Rattle.history_notions.specs.Reach.{has_at}
use Rattle.history_notions.proofs.senders.senders.Given as goal

abbrev pub invariant-loop-index : goal.invariant-loop-index
invariant-loop-index l = (piece : Piece) → is_some (tree.get nat_cmp l.names piece.blob) ≡ false → list_any (has_at l.builds piece) (take l.index l.places) ≡ false
