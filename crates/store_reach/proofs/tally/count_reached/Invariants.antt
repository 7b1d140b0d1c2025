use Rattle.std.proofs.Common.{◌≡◌, ◌-◌, ◌^◌, length}
use Rattle.store_reach.specs.Reach.{all_pieces, numbers}
use Rattle.store_reach.specs.Sets.{as_set}
use Rattle.store_reach.specs.Windows.{below}
use Rattle.store_reach.proofs.tally.count_reached.Given as goal

abbrev pub invariant-loop-next : goal.invariant-loop-next
invariant-loop-next l = l.count ≡ length (below l.start (as_set (numbers (all_pieces l.shares l.registry.entries))))

abbrev pub decreases-loop-next : goal.decreases-loop-next
decreases-loop-next l = 2 ^ 32 - l.start
