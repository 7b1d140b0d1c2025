use Rattle.first_fit.proofs.Written.{IsWritten}
use Rattle.first_fit.proofs.tree.write.Given as goal

abbrev pub invariant-loop-node : goal.invariant-loop-node
invariant-loop-node l = IsWritten l.leaves l.leaf l.value l.node l.fn.nodes l.nodes

abbrev pub decreases-loop-node : goal.decreases-loop-node
decreases-loop-node l = l.node
