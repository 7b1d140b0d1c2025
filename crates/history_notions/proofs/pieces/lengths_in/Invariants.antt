use Rattle.std.proofs.Common.{◌≡◌, ℕ, ◌+◌, ◌*◌, ◌≤◌, ◌^◌, ◌++◌, map, length, sum, sum_by, take, drop, fold, filter_map}
use Rattle.blob_model.specs.Pieces.{length_in}
use Rattle.history_notions.proofs.pieces.lengths_in.Given as goal

abbrev pub invariant-loop-number : goal.invariant-loop-number
invariant-loop-number l = (l.total ≡ sum_by (length_in l.pieces) (take l.number-index l.numbers)) × (l.total ≤ l.number-index * 2 ^ 64)
