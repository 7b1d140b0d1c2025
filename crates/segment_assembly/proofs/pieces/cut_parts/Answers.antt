-- The pieces of one part more.
use Rattle.std.proofs.Common.{ℕ, arith}
use Rattle.std.proofs.lemmas.List.{map-append}
use Rattle.std.proofs.lemmas.List.Sums.{sum_by_more}
use Rattle.segment_assembly.proofs.PieceLemmas.{more_parts}
use Rattle.segment_assembly.proofs.pieces.cut_parts.Goals as goal

pub loop-len-preserved : goal.loop-len-preserved
loop-len-preserved c =
    let i = c.loop-len.len-index in
    let parts = c.args.parts.now in
    let so_far = c.loop-len.invariant in
    let more = more_parts c.args.page i parts c.loop-len-test.true in
    record {
      pieces = rw (more, map-append, ← so_far.pieces, ← so_far.from) c.in_ok-cut_part.ensures;
      from = omega (arith, so_far.from, sum_by_more (λ (n : ℕ). n) parts i 0 c.loop-len-test.true);
    }
