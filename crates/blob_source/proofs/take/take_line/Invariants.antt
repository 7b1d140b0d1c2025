use Rattle.std.proofs.Common.{◌≡◌, ◌+◌, ◌-◌, ◌^◌, length}
use Rattle.std.specs.Io.KnownBytes.{prepend_known}
use Rattle.blob_source.proofs.LineLemmas.{Ongoing}
use Rattle.blob_source.proofs.take.take_line.Given as goal

abbrev pub invariant-pieces : goal.invariant-pieces
invariant-pieces g l = record {
  good : g.S.Source.faults l.source ≡ g.S.Source.faults l.fn.source;
  ongoing :
      Ongoing (prepend_known l.fn.ahead (g.S.Source.left l.fn.source)) (prepend_known l.ahead (g.S.Source.left l.source)) l.line;
}

abbrev pub decreases-pieces : goal.decreases-pieces
decreases-pieces g l = 2 ^ 20 + 1 - length l.line
