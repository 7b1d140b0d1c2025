use Rattle.std.proofs.Common.{◌≡◌, ℕ, ◌+◌, ◌*◌, ◌≤◌, ◌^◌, ◌++◌, map, length, sum, sum_by, take, drop, fold, filter_map}
use Rattle.std.specs.List.{range_with_len}
use Rattle.transport_plan.specs.Spans.{span_at}
use Rattle.history_notions.proofs.pieces.cut_spans.Given as goal

abbrev pub invariant-loop-k : goal.invariant-loop-k
invariant-loop-k l = l.found ≡ l.initial.found ++ map (λ (k : ℕ). (l.from + (span_at l.size l.len k).0, (span_at l.size l.len k).1)) (range_with_len 0 l.k)
