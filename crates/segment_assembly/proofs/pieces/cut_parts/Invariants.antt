use Rattle.std.proofs.Common.{◌≡◌, map, take, sum}
use Rattle.transport_plan.specs.Spans.{piece_spans}
use Rattle.segment_assembly.specs.Assembly.{bytes_at}
use Rattle.segment_assembly.proofs.pieces.cut_parts.Given as goal

abbrev pub invariant-loop-len : goal.invariant-loop-len
invariant-loop-len l =
    record {
      pieces : l.pieces.items ≡ map (bytes_at l.bytes) (piece_spans l.page 0 (take l.len-index l.parts));
      from : l.from ≡ sum (take l.len-index l.parts);
    }
