use Rattle.std.proofs.Common.{◌≡◌, ◌-◌, ◌^◌, map}
use Rattle.store_reach.specs.Reach.{all_pieces, numbers, piece_no}
use Rattle.store_reach.specs.Sets.{as_set}
use Rattle.store_reach.specs.Windows.{below}
use Rattle.store_reach.proofs.pieces.reached_pieces.Given as goal

abbrev pub invariant-loop-list : goal.invariant-loop-list
invariant-loop-list l = l.list ≡ map piece_no (below l.start (as_set (numbers (all_pieces l.shares l.registry.entries))))

abbrev pub decreases-loop-list : goal.decreases-loop-list
decreases-loop-list l = 2 ^ 32 - l.start
