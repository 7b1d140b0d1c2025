-- The piece is in this part or behind it; the bytes so far and those of this part are no more than all.
use Rattle.std.proofs.Common.{◌≡◌, ℕ, ◌*◌, ◌∙◌, get_or, sym, ap, arith}
use Rattle.std.proofs.lemmas.List.Sums.{sum_by_more}
use Rattle.transport_plan.proofs.SpanLemmas.{start_within, piece_here, piece_behind, count_left, sum_so_far, sum_small}
use Rattle.transport_plan.proofs.span.piece_span.Goals as goal

pub overflow_add-result : goal.overflow_add-result
overflow_add-result c =
    let start : c.span_at-start.result.0 ≡ c.loop-len.left * c.args.page = ap (λ (span : ℕ × ℕ). span.0) c.span_at-start.ensures in
    let within = start_within c.args.page (get_or c.args.parts.now c.loop-len.len-index 0) c.loop-len.left c.requires.page
    (rw c.div_ceil-count.ensures at c.if-left-count.true) in
    let here = sum_so_far c.loop-len.len-index c.args.parts.now c.loop-len-test.true in
    let small = sum_small c.args.page c.args.parts.now c.requires.page c.requires.page_bound c.requires.number in
    omega (arith, start, within, here, small)

pub returns-then-left-count : goal.returns-then-left-count
returns-then-left-count c =
    let within = rw c.div_ceil-count.ensures at c.if-left-count.true in
    rw c.span_at-start.ensures (sym (c.loop-len.invariant.place ∙ piece_here c.args.page c.loop-len.from c.loop-len.left c.loop-len.len-index c.args.parts.now
    c.loop-len-test.true within))

pub overflow_add-from : goal.overflow_add-from
overflow_add-from c =
    omega (
      arith,
      sum_so_far c.loop-len.len-index c.args.parts.now c.loop-len-test.true,
      sum_small c.args.page c.args.parts.now c.requires.page
          c.requires.page_bound c.requires.number,
    )

pub loop-len-preserved : goal.loop-len-preserved
loop-len-preserved c =
    let behind = rw c.div_ceil-count.ensures at c.if-left-count.false in
    let count = count_left c.args.page c.loop-len.len-index c.args.parts.now c.loop-len-test.true in
    record {
      place = rw c.div_ceil-count.ensures
          (c.loop-len.invariant.place ∙ piece_behind c.args.page c.loop-len.from c.loop-len.left c.loop-len.len-index c.args.parts.now c.loop-len-test.true
          behind);
      within = omega (arith, count, c.loop-len.invariant.within, c.div_ceil-count.ensures, c.if-left-count.false);
      from = omega (arith, sum_by_more (λ (n : ℕ). n) c.args.parts.now c.loop-len.len-index 0 c.loop-len-test.true);
    }
