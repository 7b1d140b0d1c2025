use Rattle.std.proofs.Common.{◌≡◌, ℕ, ◌+◌, ◌*◌, ◌≤◌, ◌^◌, ◌++◌, map, length, sum, sum_by, take, drop, fold, filter_map}
use Rattle.std.proofs.Common.{filter, ◌==◌}
use Rattle.std.specs.List.{list_any}
use Rattle.blob_model.specs.Pieces.{Piece}
use Rattle.history_notions.proofs.settle.job_left_of.Given as goal

abbrev pub invariant-loop-number : goal.invariant-loop-number
invariant-loop-number l = l.found ≡ filter (λ (number : ℕ). list_any (λ (piece : Piece). piece.number == number) l.list) (take l.number-index l.number-items)
