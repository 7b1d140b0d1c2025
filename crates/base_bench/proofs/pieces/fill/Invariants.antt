use Rattle.std.proofs.Common.{◌≡◌, length}
use Rattle.base_bench.specs.Bench.{IsFresh}
use Rattle.base_bench.proofs.pieces.fill.Given as goal

abbrev pub invariant-loop-piece : goal.invariant-loop-piece
invariant-loop-piece l =
    record {
      size : length l.recent ≡ l.piece;
      fresh : IsFresh l.piece l.recent;
    }
