use Rattle.std.proofs.Common.{◌≡◌, take}
use Rattle.store_reach.specs.Reach.{all_pieces}
use Rattle.store_reach.specs.Windows.{taken_all}
use Rattle.store_reach.proofs.walk.take_all.Given as goal

abbrev pub invariant-loop-number : goal.invariant-loop-number
invariant-loop-number l = l.window ≡ taken_all l.fn.window (all_pieces l.shares (take l.number l.registry.entries))
