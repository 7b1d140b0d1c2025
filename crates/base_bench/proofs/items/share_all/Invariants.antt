use Rattle.base_bench.specs.Bench.{AllOnce}
use Rattle.base_bench.proofs.items.share_all.Given as goal

abbrev pub invariant-loop : goal.invariant-loop
invariant-loop l = AllOnce l.shares
