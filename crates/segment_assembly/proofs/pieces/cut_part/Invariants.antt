use Rattle.std.proofs.Common.{◌≡◌, ◌++◌, map, take}
use Rattle.transport_plan.specs.Spans.{cut_spans}
use Rattle.segment_assembly.specs.Assembly.{bytes_at}
use Rattle.segment_assembly.proofs.pieces.cut_part.Given as goal

abbrev pub invariant-loop-k : goal.invariant-loop-k
invariant-loop-k l = l.pieces.items ≡ l.fn.pieces.items ++ map (bytes_at l.bytes) (take l.k (cut_spans l.page l.from l.len))
