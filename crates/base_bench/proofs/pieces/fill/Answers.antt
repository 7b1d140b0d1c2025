-- One piece more, behind the others.
use Rattle.std.proofs.Common.{arith}
use Rattle.std.proofs.lemmas.List.{length_push}
use Rattle.base_bench.proofs.Fresh.{fresh_more}
use Rattle.base_bench.proofs.pieces.fill.Goals as goal

pub loop-piece-preserved : goal.loop-piece-preserved
loop-piece-preserved c =
    let so_far = c.loop-piece.invariant in
    record {
      size = rw (c.in_ok-enter.ensures.ok, length_push) (omega (arith, so_far.size));
      fresh = rw c.in_ok-enter.ensures.ok (fresh_more c.loop-piece.piece 4 c.loop-piece.recent so_far.fresh);
    }
