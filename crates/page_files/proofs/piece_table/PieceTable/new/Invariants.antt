use Rattle.std.proofs.Common.{◌≡◌, map, take}
use Rattle.page_files.specs.Pieces.{bytes_of}
use Rattle.page_files.proofs.Places.{entry_of}
use Rattle.page_files.proofs.piece_table.PieceTable.new.Given as goal

abbrev pub invariant-loop-held : goal.invariant-loop-held
invariant-loop-held l = record {
  entries : l.places.entries ≡ map entry_of (take l.held-index l.pieces);
  bytes : l.bytes ≡ bytes_of (take l.held-index l.pieces);
}
