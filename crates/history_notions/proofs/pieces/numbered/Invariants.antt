use Rattle.std.proofs.Common.{◌≡◌, ℕ, ◌+◌, ◌*◌, ◌≤◌, ◌^◌, ◌++◌, map, length, sum, sum_by, take, drop, fold, filter_map}
use Rattle.blob_model.specs.Pieces.{numbered}
use Rattle.history_notions.proofs.pieces.numbered.Given as goal

abbrev pub invariant-loop-from : goal.invariant-loop-from
invariant-loop-from l =
    (l.pieces ++ numbered l.blob l.next (drop l.from-index l.spans) ≡ l.initial.pieces ++ numbered l.blob l.number l.spans)
    × (l.next ≡ l.number + l.from-index)
