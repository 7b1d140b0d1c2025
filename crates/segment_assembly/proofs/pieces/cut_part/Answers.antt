-- The next piece is the next span of the cut.
use Rattle.std.proofs.Common.{◌≡◌, ℕ, ◌+◌, ◌-◌, ◌*◌, ◌<◌, length, take, drop, min, ap, ◌∙◌, arith, append_assoc}
use Rattle.std.proofs.lemmas.List.{map_more, take_all}
use Rattle.transport_plan.specs.Spans.{cut_spans}
use Rattle.transport_plan.proofs.SpanLemmas.{cut_at, cut_length}
use Rattle.segment_assembly.specs.Assembly.{bytes_at}
use Rattle.segment_assembly.proofs.pieces.cut_part.Goals as goal

pub loop-k-preserved : goal.loop-k-preserved
loop-k-preserved c =
    let spans = cut_spans c.args.page c.args.from c.args.len in
    let k = c.loop-k.k in
    let count = rw c.div_ceil-k-end.ensures at c.loop-k-test.true in
    let inside : k < length spans = rw (cut_length c.args.page c.args.from c.args.len) count in
    let here = cut_at c.args.page c.args.from c.args.len k count in
    let size : c.args.from + k * c.args.page + c.min-size.result - (c.args.from + k * c.args.page) ≡ min c.args.page (c.args.len - k * c.args.page) =
    omega (arith, c.min-size.ensures) in
    let piece : c.in_ok-piece.piece ≡ take (min c.args.page (c.args.len - k * c.args.page)) (drop (c.args.from + k * c.args.page) c.args.bytes.now) =
    c.in_ok-piece.ensures ∙ ap (λ (n : ℕ). take n (drop (c.args.from + k * c.args.page) c.args.bytes.now)) size in
    let more = map_more (bytes_at c.args.bytes.now) spans k (0, 0) inside in
    rw (more, here, ← append_assoc, ← c.loop-k.invariant, ← piece) c.in_ok-push.ensures.items

pub returns : goal.returns
returns c =
    let all = take_all c.loop-k.k (cut_spans c.args.page c.args.from c.args.len)
    (omega (arith, cut_length c.args.page c.args.from c.args.len, c.loop-k-test.false, c.div_ceil-k-end.ensures)) in
    rw (← all) c.loop-k.invariant
