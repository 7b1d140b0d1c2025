use Rattle.std.proofs.Common.{◌≡◌, take}
use Rattle.transport_plan.specs.Spans.{piece_count}
use Rattle.history_notions.proofs.construct.count_pieces.Given as goal

abbrev pub invariant-loop-len : goal.invariant-loop-len
invariant-loop-len l = l.count ≡ piece_count l.page (take l.len-index l.lengths)
