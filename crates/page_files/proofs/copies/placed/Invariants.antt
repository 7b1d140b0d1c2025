use Rattle.std.proofs.Common.{◌≡◌, take}
use Rattle.page_files.specs.Pieces.{bytes_of, placed}
use Rattle.page_files.proofs.copies.placed.Given as goal

abbrev pub invariant-loop-held : goal.invariant-loop-held
invariant-loop-held l = record {
  list : l.list.items ≡ placed 0 (take l.held-index l.pieces);
  off : l.off ≡ bytes_of (take l.held-index l.pieces);
}
