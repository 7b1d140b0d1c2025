use Rattle.base_bench.specs.Bench.{IsFresh}
use Rattle.base_bench.proofs.queue.fill.Given as goal

abbrev pub invariant-loop-name : goal.invariant-loop-name
invariant-loop-name l = IsFresh l.name l.quota.waiting
