use Rattle.std.proofs.Common.{◌≡◌, ◌<◌, take, drop, get_or, sum}
use Rattle.transport_plan.specs.Spans.{piece_count, piece_spans}
use Rattle.transport_plan.proofs.span.piece_span.Given as goal

abbrev pub invariant-loop-len : goal.invariant-loop-len
invariant-loop-len l =
    record {
      place : get_or (piece_spans l.page 0 l.parts) l.k (0, 0) ≡ get_or (piece_spans l.page l.from (drop l.len-index l.parts)) l.left (0, 0);
      within : l.left < piece_count l.page (drop l.len-index l.parts);
      from : l.from ≡ sum (take l.len-index l.parts);
    }
