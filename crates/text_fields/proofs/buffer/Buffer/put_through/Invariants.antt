use Rattle.std.proofs.Common.{length}
use Rattle.text_fields.proofs.Outputs.{GoneThrough}
use Rattle.text_fields.proofs.buffer.Buffer.put_through.Given as goal

abbrev pub invariant-loop-rest : goal.invariant-loop-rest
invariant-loop-rest g l = GoneThrough (g.K.Sink.held l.fn.out) (g.K.Sink.held l.out) (g.K.Sink.faults l.fn.out) (g.K.Sink.faults l.out) l.bytes l.rest

abbrev pub decreases-loop-rest : goal.decreases-loop-rest
decreases-loop-rest g l = length l.rest
