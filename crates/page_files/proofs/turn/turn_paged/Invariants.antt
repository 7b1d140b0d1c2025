use Rattle.std.proofs.Common.{◌≡◌, ℕ, take}
use Rattle.std.specs.List.{AllByRecursion}
use Rattle.item_shares.specs.Shares.{share_at}
use Rattle.page_files.specs.Items.{turned, IsPieceIn}
use Rattle.page_files.proofs.turn.turn_paged.Given as goal

abbrev pub invariant-loop-held : goal.invariant-loop-held
invariant-loop-held l = record {
  turned : (slot : ℕ) → share_at l.shares slot ≡ turned l.page (take l.held-index l.pieces) slot (share_at l.fn.shares slot);
  held : AllByRecursion (IsPieceIn l.shares) l.pieces;
}
