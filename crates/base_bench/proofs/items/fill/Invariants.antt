use Rattle.base_bench.specs.Bench.{AllOnce}
use Rattle.base_bench.proofs.items.fill.Given as goal

abbrev pub invariant-loop-piece : goal.invariant-loop-piece
invariant-loop-piece l = AllOnce l.shares
