use Rattle.std.proofs.Common.{◌≡◌, ℕ, ◌+◌, ◌*◌, ◌≤◌, ◌^◌, ◌++◌, map, length, sum, sum_by, take, drop, fold, filter_map}
use Rattle.blob_model.specs.Tally.{bytes_of}
use Rattle.history_notions.proofs.pieces.bytes_of.Given as goal

abbrev pub invariant-loop-piece : goal.invariant-loop-piece
invariant-loop-piece l = (l.total ≡ bytes_of (take l.piece-index l.pieces)) × (l.total ≤ l.piece-index * 2 ^ 64)
