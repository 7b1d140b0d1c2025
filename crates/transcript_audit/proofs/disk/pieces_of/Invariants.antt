use Rattle.std.proofs.Common.{◌≡◌, ◌==◌, take}
use Rattle.std.specs.Prelude.{filter}
use Rattle.blob_model.specs.Pieces.{Piece}
use Rattle.transcript_audit.proofs.disk.pieces_of.Given as goal

abbrev pub invariant-loop-piece : goal.invariant-loop-piece
invariant-loop-piece l = l.found ≡ filter (λ (piece : Piece). piece.blob == l.name) (take l.piece-index l.pieces)
