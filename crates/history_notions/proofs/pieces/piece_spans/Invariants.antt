use Rattle.std.proofs.Common.{◌≡◌, ℕ, ◌+◌, ◌*◌, ◌≤◌, ◌^◌, ◌++◌, map, length, sum, sum_by, take, drop, fold, filter_map}
use Rattle.transport_plan.specs.Spans.{piece_spans}
use Rattle.history_notions.proofs.pieces.piece_spans.Given as goal

abbrev pub invariant-loop-len : goal.invariant-loop-len
invariant-loop-len l =
    (l.found ++ piece_spans l.page l.from (drop l.len-index l.lengths) ≡ piece_spans l.page 0 l.lengths)
    × (l.from + sum (drop l.len-index l.lengths) ≡ sum l.lengths)
