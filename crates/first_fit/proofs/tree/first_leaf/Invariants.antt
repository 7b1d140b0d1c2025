use Rattle.std.proofs.Common.{◌-◌}
use Rattle.first_fit.proofs.Descent.{IsFirstOfLevel}
use Rattle.first_fit.proofs.tree.first_leaf.Given as goal

abbrev pub invariant-loop-start : goal.invariant-loop-start
invariant-loop-start l = IsFirstOfLevel l.leaves l.nodes l.most l.start l.node

abbrev pub decreases-loop-start : goal.decreases-loop-start
decreases-loop-start l = l.leaves - l.start
