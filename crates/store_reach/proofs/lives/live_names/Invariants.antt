use Rattle.std.proofs.Common.{◌≡◌, ◌++◌}
use Rattle.store_reach.specs.Lives.{live}
use Rattle.store_reach.proofs.Living.{live_from}
use Rattle.store_reach.proofs.lives.live_names.Given as goal

abbrev pub invariant-loop-number : goal.invariant-loop-number
invariant-loop-number l = l.list.items ++ live_from l.registry l.number ≡ live l.registry
