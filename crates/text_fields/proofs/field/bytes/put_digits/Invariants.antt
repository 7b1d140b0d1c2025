use Rattle.std.proofs.Common.{length}
use Rattle.text_fields.specs.Output.{output}
use Rattle.text_fields.proofs.Outputs.{ArePut}
use Rattle.text_fields.proofs.field.bytes.put_digits.Given as goal

abbrev pub invariant-loop-rest : goal.invariant-loop-rest
invariant-loop-rest g l = ArePut (output (g.K.Sink.held l.fn.out) (g.K.Sink.faults l.fn.out) l.fn.buffer)
    (output (g.K.Sink.held l.out) (g.K.Sink.faults l.out) l.buffer) l.bytes l.rest

abbrev pub decreases-loop-rest : goal.decreases-loop-rest
decreases-loop-rest g l = length l.rest
