-- The pieces so far and those of this part are no more than all bytes.
use Rattle.std.proofs.Common.{arith}
use Rattle.transport_plan.proofs.SpanLemmas.{count_so_far, pieces_bound}
use Rattle.transport_plan.proofs.pieces.pieces_of.Goals as goal

pub overflow_add-count : goal.overflow_add-count
overflow_add-count c =
    omega (
      arith,
      count_so_far c.args.page c.loop-len.len-index c.args.parts.now c.loop-len-test.true,
      pieces_bound c.args.page c.args.parts.now
          c.requires.page,
    )
