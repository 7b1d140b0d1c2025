use Rattle.std.proofs.Common.{◌*◌, ◌≤◌, arith}
use Rattle.first_fit.proofs.Nodes.{next_power}
use Rattle.first_fit.proofs.Descent.{leaf_first, left_first, right_first}
use Rattle.first_fit.proofs.tree.first_leaf.Goals as goal

pub bounds-nodes-node : goal.bounds-nodes-node
bounds-nodes-node c =
    let room : c.loop-start.start * 2 ≤ c.args.leaves = next_power _ _ c.loop-start.invariant.power c.requires.tree.power c.loop-start-test.true in
    omega arith

pub loop-start-preserved-then-nodes-node : goal.loop-start-preserved-then-nodes-node
loop-start-preserved-then-nodes-node c = right_first _ _ _ _ _ c.requires.tree c.loop-start.invariant c.loop-start-test.true c.if-nodes-node.true

pub loop-start-preserved : goal.loop-start-preserved
loop-start-preserved c = left_first _ _ _ _ _ c.requires.tree c.loop-start.invariant c.loop-start-test.true c.if-nodes-node.false

pub returns : goal.returns
returns c = leaf_first _ _ _ _ _ c.requires.tree c.loop-start.invariant c.loop-start-test.false
