-- One span more.
use Rattle.std.proofs.Common.{◌≡◌, ℕ, ◌+◌, ◌∷◌, [], ◌++◌, map, arith, append_assoc}
use Rattle.std.specs.List.{range_with_len}
use Rattle.std.proofs.lemmas.List.FromFn.{map-range_with_len_more}
use Rattle.transport_plan.specs.Spans.{span_at}
use Rattle.history_notions.proofs.pieces.cut_spans.Goals as goal

pub loop-k-preserved : goal.loop-k-preserved
loop-k-preserved c =
    let span : ℕ → ℕ × ℕ = λ (k : ℕ). (c.args.from + (span_at c.args.size c.args.len k).0, (span_at c.args.size c.args.len k).1) in
    let more : map span (range_with_len 0 (c.loop-k.k + 1)) ≡ map span (range_with_len 0 c.loop-k.k) ++ span c.loop-k.k ∷ [] =
    map-range_with_len_more span 0 c.loop-k.k c.loop-k.k (omega arith) in
    rw (c.in_ok-push.ensures.ok, c.loop-k.invariant, c.cut_span.ensures, more)
    (append_assoc c.args.found.now (map span (range_with_len 0 c.loop-k.k)) (span c.loop-k.k ∷ []))
