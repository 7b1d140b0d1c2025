use Rattle.std.proofs.Common.{◌≡◌, length}
use Rattle.blob_source.proofs.Puts.{WentOut}
use Rattle.blob_source.proofs.put.put_all.Given as goal

abbrev pub invariant-loop-rest : goal.invariant-loop-rest
invariant-loop-rest g l = record {
  good : g.K.Sink.faults l.out ≡ g.K.Sink.faults l.fn.out;
  went : WentOut (g.K.Sink.held l.fn.out) (g.K.Sink.held l.out) l.bytes l.rest;
}

abbrev pub decreases-loop-rest : goal.decreases-loop-rest
decreases-loop-rest g l = length l.rest
